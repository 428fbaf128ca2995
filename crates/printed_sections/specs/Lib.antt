pub mod PrintedSections
