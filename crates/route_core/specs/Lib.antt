pub mod Hops
pub mod HopLists
pub mod Numbers
pub mod Tables
pub mod Rows
pub mod steps
