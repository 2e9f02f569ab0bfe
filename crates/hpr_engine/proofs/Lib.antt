pub mod OneSide
pub mod OneList
mod SameConflicts
pub mod Merge
mod Raised
pub mod InTurn
mod Premises
mod SplitParts
mod SplitNumbers
pub mod SearchedFor
mod KeptParts
pub mod SplitOff
mod OneSideWhole
mod FirstInRank
pub mod OneSideAnswer
mod OneRank
pub mod OneAnswer
mod IssuedRows
mod Unsearched
pub mod AnyPrintedKeeps
pub mod PrintedKeeps
pub mod SomeAnswer
