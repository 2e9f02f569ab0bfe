pub mod Rounds
pub mod Cuts
pub mod Once
pub mod UserFlows
pub mod FlowTags
pub mod Pairs
pub mod PlaceIn
pub mod PlaceTurns
pub mod PlaceLaws
pub mod PartedLaws
pub mod NameRows
pub mod BridgeNumbers
pub mod BridgeVertices
pub mod BridgePoints
pub mod BridgeFlow
pub mod BridgeOrder
pub mod BridgeControl
pub mod Bridge
pub mod Families
pub mod LinkTurns
pub mod TargetNumbers
pub mod ControlFamily
pub mod FlowFamily
pub mod OrderFamily
pub mod StageTurns
pub mod BridgeAhead
pub mod BridgeLeft
pub mod ReachingRows
mod Sources
mod InitialNames
mod Permuted
mod UseRows
mod FreeFlows
mod Rising
