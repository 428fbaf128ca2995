mod MatchSteps
pub mod TableLaws
pub mod RowLaws
