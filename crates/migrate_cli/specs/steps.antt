pub mod FilesRead
pub mod NightFiles
pub mod Stops
pub mod Unread
pub mod Tables
pub mod FirstUnsound
pub mod StandingNetworks
pub mod Answering
