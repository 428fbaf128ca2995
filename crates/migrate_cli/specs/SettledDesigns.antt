-- What the text of a design comes to for a network: it is refused, or something is settled for each router.
use Rattle.std.specs.Prelude.{ℕ, List}
use Rattle.net_model.specs.Network.{Network}
use Rattle.design_file.specs.Answers.{RefusesDesign, RefusesText, SaysDesign, Settles}
use Rattle.design_file.specs.Settling.{FitsNetwork}
use Rattle.design_file.specs.declared.design.Design.{Design}
use Rattle.design_file.specs.declared.refusal.DesignKind.{DesignKind}
use Rattle.design_file.specs.declared.refusal.DesignRefusal.TheVariants.{Bad}
use Rattle.design_file.specs.declared.settled.SettledRouter.{SettledRouter}
use Rattle.migration_report.specs.declared.decision.Decision.{Decision}
use Rattle.migration_report.specs.declared.decision.Decision.TheVariants.{BadDesign}
use Rattle.migrate_cli.specs.Reading.{NamedText}

-- the file is refused as a design, by the lowest kind of what is wrong in it and the least path of this kind; or it says one
-- that is refused so for the network, in which case its own text has no fault
pub data RefusesDesignFile (design : NamedText) (net : Network) : Decision → Type 0 where
  no_design : (kind : DesignKind) (path : List ℕ) → RefusesText design.text (Bad kind path) →
      RefusesDesignFile design net (BadDesign design.file path kind)
  unsettled : (said : Design) (kind : DesignKind) (path : List ℕ) → SaysDesign design.text said → RefusesDesign said net (Bad kind path) →
      RefusesDesignFile design net (BadDesign design.file path kind)

-- a text says a design that is settled for the network
pub record IsSettledBy (text : List ℕ) (net : Network) (settled : List SettledRouter) : Type 0 where
  pub said : Design
  pub says : SaysDesign text said
  pub settles : Settles said net settled
  pub fits : FitsNetwork net settled

-- the file is refused; or it says a design that is settled, and this is decided of what is settled
pub data IsSettledDecision (design : NamedText) (net : Network) (decided : List SettledRouter → Decision) : Decision → Type 0 where
  refused : (decision : Decision) → RefusesDesignFile design net decision → IsSettledDecision design net decided decision
  is_settled : (settled : List SettledRouter) → IsSettledBy design.text net settled → IsSettledDecision design net decided (decided settled)
