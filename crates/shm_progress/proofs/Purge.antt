pub mod Tables
pub mod Homes
pub mod Answers
pub mod Dead
pub mod GoOn
pub mod Everyone
