pub mod StepSides
pub mod StepLaws
pub mod StepRight
