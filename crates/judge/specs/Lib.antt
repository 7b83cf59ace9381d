-- What a reader must believe of forwarding, the verdict and Judge; and what the code's steps are (Steps).
pub mod Forwarding
pub mod Verdicts
pub mod Judging
pub mod Steps
