-- What a reader must believe of filters.
pub mod Filters
pub mod Notations
