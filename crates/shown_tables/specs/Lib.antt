pub mod ShownEntries
pub mod EntryLines
pub mod TablesTexts
pub mod steps
