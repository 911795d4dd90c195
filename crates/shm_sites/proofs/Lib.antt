pub mod Carried
pub mod Posts
