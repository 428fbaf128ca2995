-- What `tables` decides of a network.
use Rattle.std.specs.Prelude.{ℕ, List}
use Rattle.net_model.specs.Network.{Network}
use Rattle.igp_theory.specs.Migrations.{ospf_to_isis}
use Rattle.shown_tables.specs.TablesTexts.{IsTablesText}
use Rattle.migration_report.specs.declared.decision.Decision.{Decision}
use Rattle.migration_report.specs.declared.decision.Decision.TheVariants.{Tables}

-- all entries of the OSPF tables and of the IS-IS tables of its routers are told
pub data IsTablesDecision (net : Network) : Decision → Type 0 where
  shown : (text : List ℕ) → IsTablesText (ospf_to_isis net) text → IsTablesDecision net (Tables text)
