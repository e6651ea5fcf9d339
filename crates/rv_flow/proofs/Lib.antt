pub mod Dependents
pub mod Gathering
pub mod Paths
pub mod Places
pub mod Roles
mod Collecting
mod Growing
mod Longer
mod Others
mod Numbering
mod Numbers
mod Sets
mod Setting
mod Tracing
mod Units
