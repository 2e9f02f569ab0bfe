pub mod Marked
pub mod Turns
pub mod RowLists
pub mod RowLaws
