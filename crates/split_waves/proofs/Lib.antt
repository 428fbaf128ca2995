pub mod Refinements
pub mod Cuts
pub mod DistinctWaves
pub mod CutWaves
pub mod OneRouterWaves
