pub mod Lists
pub mod Bounded
mod Rows
mod Numbers
mod Named
pub mod EdgeList
pub mod Searches
pub mod LinkOrder
mod Orders
pub mod Laws
pub mod Moving
pub mod Placed
mod Joined
mod Twinned
mod Linked
mod Ascending
pub mod VertexOrder
pub mod Indexed
mod Blank
pub mod EdgeOrder
pub mod InOrder
pub mod Reordered
pub mod PutInOrder
pub mod NameOrder
pub mod NamesOnce
