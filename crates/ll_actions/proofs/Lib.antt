pub mod StepsAt
pub mod Typed
pub mod Placed
pub mod ExampleTables
pub mod SumSteps
