-- What a reader must believe of classes (Classes); what the code is given (Given), and what its steps are (Steps).
pub mod Classes
pub mod Given
pub mod Steps
