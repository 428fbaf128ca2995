pub mod MissingNames
pub mod MetConditions
pub mod AlikeInterfaces
pub mod PairRefusalLaws
pub mod ScriptParts
