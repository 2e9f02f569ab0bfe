mod Texts
mod EdgeRows
mod Objects
mod Uses
mod Whole
