pub mod MeaningOf
pub mod Opaque
