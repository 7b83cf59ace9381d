-- What a reader must believe of the network file. Code and Arrays serve the proofs.
pub mod Kinds
pub mod Refusals
pub mod Network
pub mod File
pub mod Code
pub mod Arrays
