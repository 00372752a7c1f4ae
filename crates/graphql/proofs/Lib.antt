-- The cases by computation; then demand 3, from what two runs of one computation agree on to the statements.
pub mod Computing
pub mod Cases
pub mod Apart
pub mod Account
pub mod Views
pub mod Determined
pub mod Stable
pub mod Closed
pub mod Walked
pub mod Order
pub mod Stops
pub mod Meets
pub mod Fails
pub mod Spots
pub mod Nulls
pub mod Demand3
