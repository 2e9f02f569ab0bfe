pub mod Findings
pub mod Told
pub mod Printed
pub mod Private
