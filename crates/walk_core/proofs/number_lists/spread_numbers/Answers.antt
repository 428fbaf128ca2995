use Rattle.std.proofs.Common.{arith, ℕ, ◌-◌, List, get_or, length-set, map, sym, subst, ◌∙◌}
use Rattle.std.proofs.lemmas.List.Elements.{All-set}
use Rattle.std.proofs.Math.ListN.{get_or-map}
use Rattle.walk_core.specs.steps.NumberLists.{Numbers}
use Rattle.walk_core.specs.steps.NumberLists.Numbers.{Nothing}
use Rattle.walk_core.specs.steps.Members.{member_at}
use Rattle.walk_core.specs.steps.NumberLists.{IsLongListKept, renumbered}
use Rattle.walk_core.proofs.MemberLists.{kept_at, kept_renumbered}
use Rattle.walk_core.proofs.MemberSteps.{along_more}
use Rattle.walk_core.proofs.number_lists.spread_numbers.Goals as goal

pub loop-place-preserved : goal.loop-place-preserved
loop-place-preserved c =
    let vertices : List ℕ = c.args.vertices.now in
    let numbers : List Numbers = c.args.numbers.now in
    let place : ℕ = c.loop-place.place in
    let all : List Numbers = c.loop-place.all.items in
    let is = c.loop-place.invariant in
    record {
      spread = along_more Nothing vertices c.args.end place c.first_of-first.result
          (map (renumbered vertices) numbers) all c.in_ok-own.own c.requires
          c.loop-place-test.true is.long c.first_of-first.ensures
          (c.in_ok-own.ensures ∙ sym (get_or-map (renumbered vertices) numbers place Nothing)) is.spread;
      kept = λ long kept. All-set (IsLongListKept long) all (member_at vertices place - c.first_of-first.result) c.in_ok-own.own
          (subst (IsLongListKept long) (sym c.in_ok-own.ensures)
          (kept_renumbered vertices long (get_or numbers place Nothing) (kept_at long numbers place kept))) (is.kept long kept);
      long = omega (arith, length-set all (member_at vertices place - c.first_of-first.result) c.in_ok-own.own, is.long);
    }
