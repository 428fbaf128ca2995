pub mod Oddities
pub mod ToldLines
pub mod ActingForms
pub mod SeenWords
pub mod steps
