mod Words
pub mod Numbers
mod Counting
mod Placing
mod Reading
pub mod Lists
mod Places
mod Entries
mod OneRows
mod Reversing
mod ByHead
mod Changing
