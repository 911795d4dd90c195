pub mod Mapped
pub mod Hosts
pub mod Programs
pub mod Deaths
pub mod Example
pub mod Verdicts
