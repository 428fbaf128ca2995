pub mod EqualCosts
