-- The laws of counting under a prefix, and of the search for the least header.
pub mod Counts
pub mod Marked
pub mod Search
pub mod Turns
pub mod ClassEnds
pub mod LeastHeader
