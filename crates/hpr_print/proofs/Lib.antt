mod Texts
mod Utf8
