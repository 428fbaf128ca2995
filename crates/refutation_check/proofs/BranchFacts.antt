-- Why a branch is wrong: the lowest kind, where those below it were looked at.
use Rattle.std.proofs.lemmas.Grind.{common_steps}
use Rattle.std.proofs.Common.{◌≡◌, ℕ, ◌<◌, ◌≤◌, List, length, Any, Option, arith, subst}
use Rattle.std.specs.List.{All}
use Rattle.std.specs.Option.{IfSome}
use Rattle.std.proofs.lemmas.List.{get_or_default}
use Rattle.std.proofs.lemmas.List.Elements.{All-contains}
use Rattle.std.proofs.lemmas.Option.{slice_get_within, get_or_from_slice_get}
use Rattle.net_addr.specs.Addresses.{Block, IsBlock}
use Rattle.net_addr.proofs.LongestMatchLaws.{one_longest_match}
use Rattle.net_model.specs.Configuration.{Configuration, IsConfiguration, IsInterface}
use Rattle.net_model.specs.Network.{Network, Connected}
use Rattle.net_model.specs.Refusals.{IsNetwork}
use Rattle.igp_theory.specs.Forwarding.{IsOriginated, IsTarget, MustForward}
use Rattle.igp_theory.specs.Loops.{AroundRing, IsTag}
use Rattle.igp_theory.specs.Migrations.{Migration}
use Rattle.order_core.specs.Turns.{HasBothTags}
use Rattle.order_core.specs.declared.turn.Turn.{Turn}
use Rattle.refutation_check.specs.WrongLines.{IsOriginatedBySome, WrongBranch, IsLowestKind, kind_number}
use Rattle.refutation_check.specs.declared.verdict.WrongKind.{WrongKind}
use Rattle.refutation_check.specs.declared.verdict.WrongKind.TheVariants.{Form, Router, Address, Originator, Step, OneSided, NotAssumed}

-- an originated prefix is a block of addresses
originated_block : (net : Network) (p : Block) → IsNetwork net → IsOriginated net p → IsBlock p
originated_block net p network o =
    let c : Configuration = o.up.config in
    let config : IsConfiguration c = All-contains IsConfiguration net c network.configurations
    (o.router, slice_get_within net o.router c o.up.router, get_or_from_slice_get net o.router c c o.up.router) in
    let interface : IsInterface o.interface = All-contains IsInterface c.interfaces o.interface config.interfaces o.up.among in
    subst (λ (s : Option Block). IfSome s IsBlock) o.subnet interface.prefix

-- an address has one target
pub one_target : (net : Network) (a : ℕ) (p q : Block) → IsNetwork net → IsTarget net a p → IsTarget net a q → p ≡ q
one_target net a p q network one two = grind (arith, common_steps, one_longest_match, originated_block)

-- the router of some turn originates the prefix
abbrev pub SomeOriginates : Network → List Turn → Block → Type 0
SomeOriginates net turns p = Any (λ (turn : Turn). Connected net turn.router p) turns

-- the turns go round a ring
abbrev pub GoesRound : Migration → ℕ → List Turn → Type 0
GoesRound move a turns = AroundRing (λ (r s : Turn). IsTag move a r s.router) turns

pub no_target_lowest : (move : Migration) (a : ℕ) (turns : List Turn) →
    ((p : Block) → ¬ IsTarget move.net a p) → IsLowestKind (WrongBranch move a turns) Address
no_target_lowest move a turns none = record { wrong = none; lowest = lowest }
  where
    lowest : (other : WrongKind) → WrongBranch move a turns other → 3 ≤ kind_number other
    lowest Form w = absurd w
    lowest Router w = absurd w
    lowest Address w = omega arith
    lowest Originator w = omega arith
    lowest Step w = omega arith
    lowest OneSided w = omega arith
    lowest NotAssumed w = absurd w

pub originates_lowest : (move : Migration) (a : ℕ) (turns : List Turn) (p : Block) → IsTarget move.net a p → SomeOriginates move.net turns p →
    IsLowestKind (WrongBranch move a turns) Originator
originates_lowest move a turns p target some = record { wrong = record { target = p; is_target = target; by_some = some }; lowest = lowest }
  where
    lowest : (other : WrongKind) → WrongBranch move a turns other → 4 ≤ kind_number other
    lowest Form w = absurd w
    lowest Router w = absurd w
    lowest Address w = absurd (w p target)
    lowest Originator w = omega arith
    lowest Step w = omega arith
    lowest OneSided w = omega arith
    lowest NotAssumed w = absurd w

-- another target can't be originated by one of the routers
none_originated : (net : Network) (a : ℕ) (turns : List Turn) (p : Block) → IsNetwork net → IsTarget net a p → ¬ SomeOriginates net turns p →
    ¬ IsOriginatedBySome net a turns
none_originated net a turns p network target none w =
    none (subst (λ (q : Block). SomeOriginates net turns q) (one_target net a w.target p network w.is_target target) w.by_some)

pub off_step_lowest : (move : Migration) (a : ℕ) (turns : List Turn) (p : Block) → IsNetwork move.net → IsTarget move.net a p →
    ¬ SomeOriginates move.net turns p → ¬ GoesRound move a turns
    → IsLowestKind (WrongBranch move a turns) Step
off_step_lowest move a turns p network target none off = record { wrong = off; lowest = lowest }
  where
    lowest : (other : WrongKind) → WrongBranch move a turns other → 5 ≤ kind_number other
    lowest Form w = absurd w
    lowest Router w = absurd w
    lowest Address w = absurd (w p target)
    lowest Originator w = absurd (none_originated move.net a turns p network target none w)
    lowest Step w = omega arith
    lowest OneSided w = omega arith
    lowest NotAssumed w = absurd w

pub one_sided_lowest : (move : Migration) (a : ℕ) (turns : List Turn) (p : Block) → IsNetwork move.net → IsTarget move.net a p →
    ¬ SomeOriginates move.net turns p → GoesRound move a turns → ¬ HasBothTags turns
    → IsLowestKind (WrongBranch move a turns) OneSided
one_sided_lowest move a turns p network target none round sided = record { wrong = sided; lowest = lowest }
  where
    lowest : (other : WrongKind) → WrongBranch move a turns other → 6 ≤ kind_number other
    lowest Form w = absurd w
    lowest Router w = absurd w
    lowest Address w = absurd (w p target)
    lowest Originator w = absurd (none_originated move.net a turns p network target none w)
    lowest Step w = absurd (w round)
    lowest OneSided w = omega arith
    lowest NotAssumed w = absurd w

-- routers at which the target isn't connected have to pass packets on
pub all_must : (net : Network) (a : ℕ) (turns : List Turn) (p : Block) → IsTarget net a p → ¬ SomeOriginates net turns p →
    All (λ (turn : Turn). turn.router < length net) turns
    → All (λ (turn : Turn). MustForward net a turn.router) turns
all_must net a turns p target none below = grind (arith, common_steps, get_or_default)
