pub mod AccountLemmas
pub mod PartialRunLemmas
pub mod ListLemmas
pub mod OutcomeLemmas
pub mod SpreadLemmas
pub mod TallyLemmas
