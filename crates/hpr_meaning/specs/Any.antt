-- The laws of runs and of kept meaning, whatever the contents mean.
pub mod Meaning
pub mod Standard
pub mod Run
pub mod Kept
pub mod Instances
pub mod Due
pub mod TimeLaw
pub mod OrderLaw
pub mod SliceLaw
pub mod CoverLaw
pub mod KeptLaw
