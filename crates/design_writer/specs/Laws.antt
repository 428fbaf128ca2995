-- The laws of designs by costs: there is one text, and the configurations that are read can be named in it.
use Rattle.std.specs.Prelude.{◌≡◌, ℕ, List}
use Rattle.net_model.specs.Configuration.{Configuration}
use Rattle.net_model.specs.Network.{Network}
use Rattle.net_model.specs.Refusals.{MakeNetwork}
use Rattle.net_model.specs.declared.config.Levels.{Levels}
use Rattle.ios_lines.specs.Words.{Word}
use Rattle.isis_writer.specs.ReadTexts.{ReadsTexts}
use Rattle.design_writer.specs.CostDesigns.{HaveTextNames, IsDesignByCosts}

-- a network has one design by costs of an area and some levels
abbrev pub OneCostDesignLaw : Type 0
OneCostDesignLaw =
    (area : Word) (levels : Levels) (net : Network) (text other : List ℕ) → IsDesignByCosts area levels net text →
    IsDesignByCosts area levels net other → text ≡ other

-- in a network of configurations that are read the names of all interfaces are text
abbrev pub TextNamesLaw : Type 0
TextNamesLaw =
    (texts : List (List ℕ)) (configs : List Configuration) (net : Network) → ReadsTexts texts configs → MakeNetwork configs net → HaveTextNames net
