-- What counting under a prefix is (Counting), and what the code's steps are (Steps).
pub mod Counting
pub mod Steps
