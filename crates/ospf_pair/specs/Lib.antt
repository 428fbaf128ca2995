pub mod NetworkPairs
pub mod RouterConditions
pub mod PairRefusals
pub mod PairLaws
pub mod PairScripts
pub mod PairTexts
pub mod PairMigrations
pub mod steps
