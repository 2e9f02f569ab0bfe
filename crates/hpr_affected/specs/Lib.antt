pub mod Numbers
pub mod Lacking
pub mod Differing
pub mod Comparison
pub mod Shared
