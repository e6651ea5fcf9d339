pub mod Carried
pub mod Disjoint
