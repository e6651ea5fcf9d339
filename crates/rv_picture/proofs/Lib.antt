mod Columns
mod Numbers
mod Pieces
mod Plans
mod Spelled
