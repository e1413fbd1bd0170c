-- Names: their order, sorting, and sets of them. Assumes nothing.
pub mod Order
pub mod Sets
pub mod Sorting
