pub mod Originated
