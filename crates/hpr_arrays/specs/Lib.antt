pub mod Elements
pub mod Pages
