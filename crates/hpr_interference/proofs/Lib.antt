mod Nearest
mod Listed
mod Grouped
mod Whole
