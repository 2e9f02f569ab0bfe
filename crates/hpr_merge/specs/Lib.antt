pub mod Added
pub mod Beside
pub mod Candidates
pub mod Firsts
pub mod Known
pub mod PointConflicts
pub mod ThreePoints
pub mod Words
