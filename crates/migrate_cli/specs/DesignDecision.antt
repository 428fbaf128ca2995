-- What `design` decides of a network.
use Rattle.std.specs.Prelude.{ℕ, List}
use Rattle.net_model.specs.Network.{Network}
use Rattle.design_writer.specs.CostDesigns.{IsDesignByCosts}
use Rattle.migrate_words.specs.Schemes.{AskedScheme}
use Rattle.migration_report.specs.declared.decision.Decision.{Decision}
use Rattle.migration_report.specs.declared.decision.Decision.TheVariants.{Designed}

-- the text of its design by costs, of the area and the levels that are asked for
pub data IsDesignDecision (scheme : AskedScheme) (net : Network) : Decision → Type 0 where
  designed : (text : List ℕ) → IsDesignByCosts scheme.area scheme.levels net text → IsDesignDecision scheme net (Designed text)
