mod InLimit
mod Refused
