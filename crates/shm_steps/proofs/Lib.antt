pub mod Framed
pub mod InARow
pub mod Kept
pub mod Stepping
pub mod Told
