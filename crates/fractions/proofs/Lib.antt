mod Early
mod Nearest
mod Settled
