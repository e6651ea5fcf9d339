pub mod Bars
pub mod Cuts
pub mod Fitting
pub mod Laws
pub mod Past
pub mod Settled
pub mod Windows
