-- What text an answer becomes.
pub mod Text
pub mod Lines
pub mod Asked
pub mod Left
