-- The laws that rest on the words of `Terms`; `Promises` is the page to read. Assumes nothing.
-- the promises
pub mod Promises
-- the search and the check
pub mod Search
pub mod Check
