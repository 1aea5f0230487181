mod Counting
mod Placing
mod Standing
