pub mod FakeLemmas
pub mod TakenLemmas
