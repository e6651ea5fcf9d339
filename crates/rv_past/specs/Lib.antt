pub mod Before
pub mod Facts
pub mod Gone
pub mod Laws
