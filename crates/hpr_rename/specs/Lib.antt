pub mod Renamed
pub mod RenamedRuns
pub mod Replaced
pub mod Any
