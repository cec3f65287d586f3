-- What the exported functions store.
pub mod Interface
