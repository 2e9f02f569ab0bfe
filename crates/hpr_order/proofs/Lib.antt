mod Lists
pub mod Ranks
mod ManyRanks
mod Joins
pub mod ListFacts
pub mod BlockOf
pub mod Lefts
pub mod Shapes
pub mod Slots
pub mod ReadBack
pub mod Sound
pub mod Complete
pub mod Arranges
pub mod Tabled
pub mod Itemized
pub mod Given
pub mod Ranked
pub mod Climbs
pub mod Built
pub mod Marked
pub mod ItemRows
mod Rows
mod Downs
mod Leasts
mod Onlys
mod Places
pub mod Steps
pub mod Linking
pub mod Tabling
pub mod Coming
pub mod Preorders
mod OuterControls
pub mod SomeRank
pub mod OneBody
mod PartTurns
