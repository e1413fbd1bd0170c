pub mod PairChecks
pub mod ElementLaws
pub mod CountLaws
pub mod PairCheckLaws
pub mod ReadingRight
pub mod PairReading
pub mod PairReadingLaws
pub mod SidedProp
