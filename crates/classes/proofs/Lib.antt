-- The laws behind the class list.
pub mod Counts
pub mod Order
pub mod Partition
pub mod Headers
pub mod Tally
pub mod Listed
pub mod Number
pub mod Moves
pub mod Sift
pub mod Skip
pub mod Grow
pub mod Shifts
pub mod Rows
pub mod Steps
pub mod Whole
pub mod Laid
pub mod Demand3
