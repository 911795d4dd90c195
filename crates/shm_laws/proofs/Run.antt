-- Runs: induction over them, and how one goes on.
pub mod Induction
pub mod GoesOn
