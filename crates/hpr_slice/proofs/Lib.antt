mod SourceRows
mod TargetRows
mod Walks
mod Marked
mod StepLists
pub mod Chains
