pub mod MemberPuts
pub mod CostTables
pub mod CostLookups
pub mod CostSettling
pub mod CostTexts
pub mod OneText
pub mod TextNames
pub mod OneAreas
