-- The laws and definitions of the search over lent words. Assumes nothing.
pub mod CapacityLaws
pub mod ViewLaws
pub mod SoundLaws
pub mod LearnLaws
pub mod DecideLaws
pub mod State
pub mod RoundLaws
pub mod ConflictLaws
pub mod StepLaws
pub mod SolveLaws
pub mod StartLaws
pub mod GraphLaws
