pub mod SampleLinks
pub mod SampleTexts
