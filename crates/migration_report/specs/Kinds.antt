-- The names of what is wrong in orders and tree files, as they are printed.
use Rattle.std.specs.Prelude.{ℕ, List, codes}
use Rattle.refutation_check.specs.declared.verdict.WrongKind.{WrongKind}
use Rattle.refutation_check.specs.declared.verdict.WrongKind.TheVariants.{Form, Router, Address, Originator, Step, OneSided, NotAssumed}
use Rattle.step_scripts.specs.declared.kind.OrderKind.{OrderKind}
use Rattle.step_scripts.specs.declared.kind.OrderKind.TheVariants.{Header, NotInNetwork, Twice, Missing, Wave, Chain}

-- why a line of an order is faulty
abbrev pub order_kind_name : OrderKind → List ℕ
order_kind_name Header = codes "Header"
order_kind_name NotInNetwork = codes "NotInNetwork"
order_kind_name Twice = codes "Twice"
order_kind_name Missing = codes "Missing"
order_kind_name Wave = codes "Wave"
order_kind_name Chain = codes "Chain"

-- why a line of a tree file is wrong
abbrev pub wrong_kind_name : WrongKind → List ℕ
wrong_kind_name Form = codes "Form"
wrong_kind_name Router = codes "Router"
wrong_kind_name Address = codes "Address"
wrong_kind_name Originator = codes "Originator"
wrong_kind_name Step = codes "Step"
wrong_kind_name OneSided = codes "OneSided"
wrong_kind_name NotAssumed = codes "NotAssumed"
