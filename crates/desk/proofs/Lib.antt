-- That each contract allows one outcome.
pub mod Determined
