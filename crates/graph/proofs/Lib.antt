mod Digits
mod Sets
mod Links
mod Weights
mod Begins
mod Loops
