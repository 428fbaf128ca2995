pub mod RouterChanges
pub mod Undoing
pub mod UndoneFacts
