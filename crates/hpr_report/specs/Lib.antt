pub mod Texts
pub mod GraphTexts
pub mod EdgeParts
pub mod GraphJson
pub mod AffectedText
pub mod ConflictsText
pub mod TableText
pub mod VertexTexts
