pub mod Facts
pub mod Plain
pub mod Compare
pub mod Equal
pub mod InOrder
pub mod Few
pub mod NamesUsed
pub mod OfLength
