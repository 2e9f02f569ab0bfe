mod NameLemmas
mod NumberLemmas
mod RangeLemmas
mod AskedLemmas
