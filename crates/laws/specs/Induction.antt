-- k-induction over the plain run: it is sound, and keeps what it says of swapped designs; chains; and what an accepted pair of records has. Assumes nothing.
pub mod Sound
pub mod Chain
pub mod Swap
pub mod Pairs
