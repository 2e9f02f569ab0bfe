-- What private functions and the checker alone need: no clause of a public call speaks of it.
pub mod BodyCode
pub mod BodyFalls
pub mod ContentCode
pub mod Refusals
pub mod ValueCode
