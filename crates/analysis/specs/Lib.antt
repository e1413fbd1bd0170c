pub mod Analysis
pub mod SeeLaws
pub mod RoundLaws
pub mod AnalyzeLaws
pub mod LearnedLaws
pub mod SortLaws
pub mod Sorting
