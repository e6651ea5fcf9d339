mod Firsts
mod NoWaits
mod Pairs
