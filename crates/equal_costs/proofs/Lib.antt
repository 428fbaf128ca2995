pub mod SameTables
pub mod SameStates
