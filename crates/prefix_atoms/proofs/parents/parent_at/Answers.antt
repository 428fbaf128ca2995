use Rattle.std.proofs.lemmas.Grind.{common_steps}
use Rattle.std.proofs.Common.{◌≡◌, ◌<◌, Some, None, arith, length, refl, slice_get, subst, sym, ◌∙◌}
use Rattle.std.proofs.lemmas.Option.{same_Some, slice_get-get_or, slice_get_read}
use Rattle.net_addr.specs.Addresses.{Block}
use Rattle.prefix_atoms.specs.Nested.{IsParent}
use Rattle.prefix_atoms.proofs.NestedLaws.{IsAhead, ahead_begins, ahead_next, parent_found, parent_none, places_fewer}
use Rattle.prefix_atoms.proofs.parents.parent_at.Goals as goal

pub loop-next-init : goal.loop-next-init
loop-next-init c =
    ahead_begins c.args.prefixes.now c.args.place c.index-prefixes-place.result c.checked_sub-next.result c.requires.blocks c.requires.ascending
    (slice_get_read c.args.prefixes.now (length c.args.prefixes.now) c.args.place c.index-prefixes-place.result refl c.requires.within
    c.index-prefixes-place.is)
    c.checked_sub-next.ensures

pub returns-then-is_around : goal.returns-then-is_around
returns-then-is_around c p at =
    let own : slice_get c.args.prefixes.now c.args.place ≡ Some c.index-prefixes-place.result =
    slice_get_read c.args.prefixes.now (length c.args.prefixes.now) c.args.place c.index-prefixes-place.result refl c.requires.within
    c.index-prefixes-place.is in
    let ahead = subst (IsAhead c.args.prefixes.now c.args.place c.index-prefixes-place.result) c.in-Some.is c.loop-next.invariant in
    let before : c.in-Some.other < c.args.place = ahead.before in
    let within : c.in-Some.other < length c.args.prefixes.now = omega (arith, c.requires.within) in
    let both = c.is_around.ensures.0 c.if-is_around.true in
    subst (λ (x : Block). IsParent c.args.prefixes.now c.args.place x (Some c.in-Some.other)) (same_Some _ _ (sym own ∙ at))
    (parent_found c.args.prefixes.now c.args.place c.in-Some.other c.index-prefixes-place.result c.index-prefixes-other.result
    (slice_get_read c.args.prefixes.now (length c.args.prefixes.now) c.in-Some.other c.index-prefixes-other.result refl within c.index-prefixes-other.is)
    ahead both.0 both.1)

pub loop-next-preserved : goal.loop-next-preserved
loop-next-preserved c =
    let ahead = subst (IsAhead c.args.prefixes.now c.args.place c.index-prefixes-place.result) c.in-Some.is c.loop-next.invariant in
    let before : c.in-Some.other < c.args.place = ahead.before in
    let within : c.in-Some.other < length c.args.prefixes.now = omega (arith, c.requires.within) in
    let at = slice_get_read c.args.prefixes.now (length c.args.prefixes.now) c.in-Some.other c.index-prefixes-other.result refl within
    c.index-prefixes-other.is in
    ahead_next c.args.prefixes.now c.args.place c.in-Some.other c.index-prefixes-place.result c.index-prefixes-other.result _ c.requires.blocks at ahead
    (λ both. let yes = c.is_around.ensures.1 both in let none : ⊥ = cc in none)
    (c.requires.known c.in-Some.other c.index-prefixes-other.result _ at
    (slice_get-get_or c.args.parents.now c.in-Some.other None (omega (arith, c.requires.before))))

pub loop-next-smaller : goal.loop-next-smaller
loop-next-smaller c =
    let ahead = subst (IsAhead c.args.prefixes.now c.args.place c.index-prefixes-place.result) c.in-Some.is c.loop-next.invariant in
    let before : c.in-Some.other < c.args.place = ahead.before in
    let within : c.in-Some.other < length c.args.prefixes.now = omega (arith, c.requires.within) in
    let at = slice_get_read c.args.prefixes.now (length c.args.prefixes.now) c.in-Some.other c.index-prefixes-other.result refl within
    c.index-prefixes-other.is in
    places_fewer _ c.loop-next.next c.in-Some.other c.in-Some.is
    (c.requires.known c.in-Some.other c.index-prefixes-other.result _ at
    (slice_get-get_or c.args.parents.now c.in-Some.other None (omega (arith, c.requires.before)))).before

pub returns : goal.returns
returns c p at = grind (arith, common_steps, parent_none, same_Some, slice_get_read)
