-- The laws of what is made.
mod MadeLaws
