mod AsBox
mod Some
