pub mod CostTables
pub mod CostDesigns
pub mod Laws
pub mod OneAreaDesigns
