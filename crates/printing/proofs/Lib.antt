-- The laws of decimal numbers, letters and lines.
pub mod Numbers
pub mod Nodes
pub mod ByNumber
pub mod Meaning
