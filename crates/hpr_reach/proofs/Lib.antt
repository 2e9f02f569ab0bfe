pub mod Targets
pub mod Avoids
pub mod Walks
pub mod Grown
pub mod Lives
pub mod Flows
pub mod Chains
pub mod Marked
pub mod ByTags
mod Users
