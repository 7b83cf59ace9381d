-- What a reader must believe of Walk; and what the code's steps are (Steps).
pub mod Walking
pub mod Steps
