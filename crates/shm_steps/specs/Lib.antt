pub mod Section
pub mod Steps
pub mod Stepping
pub mod Stepped
