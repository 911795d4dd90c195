mod Asked
mod Plain
mod Wrong
mod Numbers
mod Streaming
mod Forgotten
mod NotAccepted
mod Zipped
mod SimulationLemmas
mod KeptLemmas
mod PlayedLemmas
mod Unbegun
mod Refusing
mod FirstLemmas
mod Unmarked
mod Unsealed
pub mod Untold
mod Shorter
pub mod Stretched
