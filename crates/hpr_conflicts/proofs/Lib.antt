mod KeyEqual
mod Placed
mod Numbered
mod Rowed
mod Pieces
