pub mod AtOnce
pub mod Showing
pub mod Site
pub mod State
pub mod Step
