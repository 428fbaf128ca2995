pub mod OspfCosts
pub mod IsisCosts
