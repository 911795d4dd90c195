pub mod NumberLemmas
pub mod NumberWords
pub mod OneWord
pub mod Reading
pub mod CallLemmas
pub mod CallTexts
pub mod ReadLines
pub mod ReadLemmas
pub mod SpelledLemmas
pub mod StepLemmas
pub mod WordLemmas
mod Lines
pub mod AnswerLemmas
pub mod FrontLemmas
