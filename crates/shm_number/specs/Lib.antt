pub mod Served
pub mod Kept
