mod Words
mod Places
