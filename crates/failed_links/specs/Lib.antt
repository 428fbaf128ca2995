pub mod SharedLinks
pub mod ShutDown
pub mod DownLaws
pub mod steps
