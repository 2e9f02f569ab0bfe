mod NumberRows
mod MovedLinks
pub mod PointLists
mod MarkRows
mod DirectTests
mod ChangedPoints
mod SharedPoints
pub mod NumberedPoints
pub mod SliceMarks
