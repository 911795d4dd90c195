-- The one kernel's list of segments, and the homes' parts of it.
pub mod Lists
pub mod Parts
pub mod Effect
pub mod Count
pub mod Held
