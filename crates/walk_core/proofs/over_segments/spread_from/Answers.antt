use Rattle.std.proofs.Common.{◌≡◌, ◌<◌, ◌∙◌, ◌++◌, [], ℕ, List, ap, get_or, length, replicate, arith}
use Rattle.std.proofs.lemmas.List.{get_or_default}
use Rattle.walk_core.specs.steps.Members.{member_at, place_in}
use Rattle.walk_core.proofs.MemberFacts.{ascending_behind, ascending_from, spread_along}
use Rattle.walk_core.proofs.over_segments.spread_from.Goals as goal

pub along-requires : goal.along-requires
along-requires c =
    let vertices : List ℕ = c.vertices-vertices.result.now in
    let below : c.place-place.result < length c.args.members.now.vertices = omega (arith, c.if-place-len.false, c.len.ensures) in
    let within : c.place-place.result < length c.args.lists.now = omega (arith, below, c.requires.lists.long) in
    ascending_behind c.in_ok-hops.hops (member_at vertices 0)
    (ascending_from c.args.members.now c.args.lists.now c.place-place.result vertices c.index-lists-place.result
    (replicate (member_at vertices 0) [] ++ c.in_ok-hops.hops)
    c.requires.numbered c.requires.lists below
    (c.index-lists-place.is
    ∙ get_or_default c.args.lists.now c.place-place.result c.index-lists-place.result [] within) c.vertices-vertices.ensures
    c.in_ok-hops.ensures)

pub returns : goal.returns
returns c =
    let p : ℕ = c.place-place.result in
    let below : p < length c.args.members.now.vertices = omega (arith, c.if-place-len.false, c.len.ensures) in
    let place : p ≡ place_in c.args.members.now c.args.root = c.place-place.ensures in
    spread_along c.args.members.now (record { rows = c.args.rows.now; lists = c.args.lists.now }) c.args.root
    c.vertices-vertices.result.now c.index-rows-place.result c.index-lists-place.result
    (record { first = c.first_of.result; distances = c.in_ok-distances.distances.items; hops = c.in_ok-hops.hops })
    c.in_ok-walks.walks (omega (arith, below, place)) c.requires.numbered.end c.vertices-vertices.ensures
    (c.index-rows-place.is ∙ get_or_default c.args.rows.now p c.index-rows-place.result [] (omega (arith, below, c.requires.rows))
    ∙ ap (λ (n : ℕ). get_or c.args.rows.now n []) place)
    (c.index-lists-place.is ∙ get_or_default c.args.lists.now p c.index-lists-place.result []
    (omega (arith, below, c.requires.lists.long)) ∙ ap (λ (n : ℕ). get_or c.args.lists.now n []) place)
    c.first_of.ensures (c.in_ok-distances.ensures.long ∙ c.end.ensures) c.in_ok-distances.ensures.spread c.in_ok-hops.ensures
    c.in_ok-walks.ensures
