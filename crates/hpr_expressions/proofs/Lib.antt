pub mod SoundExpression
pub mod WholeExpression
pub mod Spelled
pub mod Innermost
pub mod Named
