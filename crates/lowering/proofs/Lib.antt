-- The laws of the registers, and of the whole.
mod RegisterLaws
mod SystemLaws
