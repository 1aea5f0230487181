mod Words
mod Ungated
mod Unstalled
mod GivesUp
mod AccountLines
mod Adding
mod Noted
mod Ended
