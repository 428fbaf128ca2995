pub mod Parts
pub mod SurveyFiles
pub mod FaultTexts
pub mod NetworkLines
pub mod TextLines
pub mod KindTexts
pub mod SurveyTexts
pub mod steps
