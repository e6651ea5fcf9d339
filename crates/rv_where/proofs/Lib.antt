mod Going
mod Headers
mod Taken
