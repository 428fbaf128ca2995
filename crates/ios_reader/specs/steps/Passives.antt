-- Which interfaces the lines of the two processes make passive, by name.
use Rattle.std.specs.Prelude.{◌≡◌, Bool, List, [], ◌∷◌, Option, Some, None, bytes_eq, if◌then◌else◌}
use Rattle.ios_lines.specs.Words.{Word}
use Rattle.ios_reader.specs.Routers.{Router}
use Rattle.ios_lines.specs.declared.ospf_line.OspfStatement.{OspfStatement}
use Rattle.ios_lines.specs.declared.isis_line.IsisStatement.{IsisStatement}

-- what a table says of a name
abbrev pub said_of : List (Word × Bool) → Word → Option Bool
said_of [] name = None
said_of (e ∷ es) name = if bytes_eq name e.0 then Some e.1 else said_of es name

-- a table, where a name takes a value in the place of the one that it has
abbrev pub with_said : List (Word × Bool) → Word → Bool → List (Word × Bool)
with_said [] name passive = (name, passive) ∷ []
with_said (e ∷ es) name passive = if bytes_eq name e.0 then (e.0, passive) ∷ es else e ∷ with_said es name passive

-- the lines by which interfaces are passive: of the OSPF process and of the IS-IS process
pub record Passives : Type 0 where
  pub ospf : List OspfStatement
  pub isis : List IsisStatement

-- they are those of the router
pub record ArePassivesOf (router : Router) (passives : Passives) : Type 0 where
  pub ospf : passives.ospf ≡ router.ospf
  pub isis : passives.isis ≡ router.isis
