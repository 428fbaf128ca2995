pub mod Lists
pub mod Longest
pub mod Numbers
