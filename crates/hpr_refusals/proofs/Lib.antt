pub mod Once
pub mod SomeReading
