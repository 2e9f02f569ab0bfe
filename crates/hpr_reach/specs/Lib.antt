pub mod Reaches
pub mod OpenSteps
pub mod Live
pub mod Flows
pub mod ByTags
