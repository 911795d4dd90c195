pub mod NameLemmas
pub mod SealLemmas
