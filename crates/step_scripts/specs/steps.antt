pub mod ReadWaves
