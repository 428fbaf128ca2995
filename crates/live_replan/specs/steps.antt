pub mod ToldChanges
