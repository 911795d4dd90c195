-- What a site counts as copies are copies.
pub mod Held
pub mod Steps
