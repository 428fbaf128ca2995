pub mod ListLemmas
mod ChainLemmas
mod SpliceLemmas
mod MoveLemmas
mod WholeLemmas
mod UndoLemmas
