pub mod Causes
pub mod CutInput
pub mod Found
pub mod Lines
pub mod Reports
pub mod WholeInput
pub mod Calls
pub mod CallersTold
pub mod FirstFault
pub mod Served
pub mod Counted
mod Pushed
pub mod InRange
pub mod Answered
