-- Runs with other tags, whatever the contents mean.
pub mod RenamedRuns
