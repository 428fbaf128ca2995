pub mod Inside
pub mod SeenBytes
pub mod Shown
