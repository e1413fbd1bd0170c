pub mod FieldLaws
pub mod Fields
