pub mod Sums
pub mod Books
pub mod Steps
pub mod Waiting
pub mod Falls
pub mod Rests
pub mod Few
