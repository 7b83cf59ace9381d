-- What a reader must believe of going round, and the rows that the code reads.
pub mod Rounds
pub mod Rows
