pub mod Lexemes
pub mod Tagging
pub mod Answers
pub mod Laws
pub mod Gaps
