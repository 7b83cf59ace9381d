-- The laws behind Walk; and the paper's rows, of Judge and of Walk.
pub mod WalkSteps
pub mod WalkTables
pub mod WalkMeans
pub mod Determined
pub mod PaperRows
