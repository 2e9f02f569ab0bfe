-- What the contracts of private functions say: no public clause cites it.
pub mod Replies
pub mod Loads
pub mod Graphs
