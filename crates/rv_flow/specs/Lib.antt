pub mod Carriers
pub mod Dependencies
pub mod Destinations
pub mod Flows
pub mod Laws
pub mod Leading
pub mod Listed
pub mod Traces
