pub mod EndsLemmas
pub mod GraphLemmas
pub mod Unrefused
mod ManyDecided
pub mod TrialLemmas
pub mod Completeness
pub mod Once
pub mod Theorem
pub mod SliceTheorem
pub mod TrialTheorem
pub mod Reported
mod TotalFiles
mod TotalGraphs
mod TotalTables
pub mod Total
pub mod KindLemmas
