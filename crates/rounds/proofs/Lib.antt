-- The laws of going round.
pub mod Pigeon
pub mod Cycle
pub mod Low
pub mod CycleList
pub mod Written
