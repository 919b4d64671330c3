pub mod Forced
pub mod Parts
pub mod Back
pub mod Looks
pub mod Spread
pub mod Gains
pub mod Empty
pub mod Reasons
pub mod Once
pub mod Keeping
pub mod Learned
pub mod Solves
pub mod Growth
pub mod Walk
pub mod Arrays
pub mod Watches
pub mod Passing
pub mod Lists
pub mod Sweeps
pub mod Joins
pub mod Levels
pub mod Answered
pub mod Watching
pub mod Marking
pub mod Picks
pub mod Gaining
mod Shortening
mod Places
mod Restarts
pub mod Knowing
