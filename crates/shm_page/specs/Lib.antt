pub mod Entry
pub mod Out
pub mod State
