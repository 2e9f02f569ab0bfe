-- The law of slices as programs, whatever the contents mean.
pub mod KeptLaw
