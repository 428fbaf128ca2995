use Rattle.std.proofs.Common.{[], ◌++◌, ℕ, List, length, map, replicate, subst, sym}
use Rattle.walk_core.specs.steps.Members.{IsSpread, member_at, members_at}
use Rattle.walk_core.specs.steps.NumberLists.{Numbers}
use Rattle.walk_core.specs.steps.NumberLists.Numbers.{Nothing}
use Rattle.walk_core.proofs.ListParts.{none_in_front}
use Rattle.walk_core.proofs.MemberLists.{lists_spread_as}
use Rattle.walk_core.proofs.number_lists.NumberLists.spread.Goals as goal

pub returns : goal.returns
returns c =
    let vertices : List ℕ = c.args.vertices.now in
    let first : ℕ = member_at vertices 0 in
    let all : List Numbers = c.in_ok-all.all.items in
    subst (IsSpread [] vertices (length vertices) (map (members_at vertices) c.args.self.now))
    (none_in_front c.in_ok-long.long all first)
    (lists_spread_as vertices (length vertices) c.self.inside.long c.in_ok-long.long c.args.self.now c.self.inside.all.items
    c.as_slice.result.now (replicate first Nothing ++ all) c.in_ok-long.ensures c.as_slice.ensures.value
    (sym c.self.view_is) c.in_ok-all.ensures.spread)
