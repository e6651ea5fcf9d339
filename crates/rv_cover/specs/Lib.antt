pub mod Carries
pub mod Laws
pub mod Paths
pub mod Thinned
