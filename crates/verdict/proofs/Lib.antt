-- What the program needs of Judge's answer, and what it prints.
pub mod Answer
pub mod Printed
pub mod Examples
