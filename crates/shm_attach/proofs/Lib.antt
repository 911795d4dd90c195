pub mod Slots
pub mod Destroyed
pub mod Runs
