-- What a program that links the library must believe.
pub mod Sheets
