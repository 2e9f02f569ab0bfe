pub mod Innermost
pub mod Going
pub mod Parts
pub mod Sound
pub mod Whole
pub mod Kept
pub mod Lengths
pub mod Shapes
pub mod Numbered
pub mod Once
pub mod Answers
pub mod Texts
pub mod ContentGoing
pub mod LastSign
pub mod Contents
pub mod SomeReading
pub mod SpelledProper
mod Named
