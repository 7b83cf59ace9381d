-- The laws behind Judge.
pub mod RowLaws
pub mod First
pub mod Alike
pub mod Decided
pub mod JudgeLaws
pub mod FromFile
pub mod Demand2
pub mod Demand3Lists
pub mod Determined
pub mod Model
