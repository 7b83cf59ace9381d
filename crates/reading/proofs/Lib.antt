-- The laws that the proofs of this crate cite, and its theorems.
pub mod Tests
pub mod Shapes
pub mod Agree
pub mod Places
pub mod Onward
pub mod Looking
pub mod Trails
pub mod Progress
pub mod Filling
pub mod Networks
pub mod Parts
pub mod Prefix
pub mod Slices
pub mod Demand1
pub mod Examples
