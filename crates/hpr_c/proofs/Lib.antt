pub mod PackedLemmas
pub mod TellsLemmas
pub mod EndsLemmas
pub mod IntegrateLemmas
pub mod PlacesLemmas
pub mod DataLemmas
