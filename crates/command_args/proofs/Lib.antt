mod Words
mod Globals
mod Numbers
mod Parsing
mod Reading
mod Table
