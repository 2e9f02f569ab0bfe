-- What the contracts of private functions say: no public clause cites it.
pub mod Writes
pub mod MakesGraph
pub mod SlicedIn
pub mod Stopped
pub mod ItemLine
pub mod ManyStopped
pub mod VerifiedOf
