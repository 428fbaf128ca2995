pub mod Sorting
pub mod Marks
pub mod Walking
pub mod Chaining
pub mod Graphs
