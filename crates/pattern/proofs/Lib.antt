-- The laws of bits, patterns and counts, from the single digit up to the size of a pattern.
pub mod Tests
pub mod Digits
pub mod Masks
pub mod Within
pub mod Size
pub mod Notes
