pub mod Limit
pub mod Answers
pub mod Budget
pub mod Made
pub mod OneSide
pub mod Kept
pub mod Searched
