-- The laws of clearing.
mod ClearLaws
