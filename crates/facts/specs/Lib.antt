-- General facts that the toolchain's library lacks: of bits, numbers and lists. Assumes nothing.
pub mod Bools
pub mod Numbers
pub mod Lists
pub mod Floats
