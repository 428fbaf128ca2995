use Rattle.std.proofs.Common.{◌≡◌, ◌<◌, ◌≤◌, ◌∙◌, ℕ, List, Some, arith, length, not, refl, slice_get, subst, sym, ⊎_elim}
use Rattle.std.specs.Bool.{OnFalse, OnTrue}
use Rattle.std.proofs.lemmas.Bool.{cases_lt}
use Rattle.std.proofs.lemmas.Option.{same_Some, slice_get_read}
use Rattle.prefix_atoms.proofs.Pushed.{count_more, each_more}
use Rattle.rib_mix.specs.declared.both_tables.BothTables.{BothTables}
use Rattle.rib_mix.specs.declared.lanes.Lanes.{Lanes}
use Rattle.rib_mix.specs.steps.Features.{HasKindsBefore, HaveLanesOf}
use Rattle.rib_mix.proofs.FeatureLaws.{begins_next, next_lanes}
use Rattle.rib_mix.proofs.lanes.Lanes.of_tables.Goals as goal

pub loop-router-preserved : goal.loop-router-preserved
loop-router-preserved c =
    let tables : List BothTables = c.args.tables.now in
    let router : ℕ = c.loop-router.router in
    let both : BothTables = c.index-tables-router.result in
    let old : Lanes = c.loop-router.lanes in
    let new : Lanes = c.add.new.self in
    let before : BothTables → Type 0 = HasKindsBefore tables router in
    let here : slice_get tables router ≡ Some both =
    slice_get_read tables (length tables) router both refl (omega (arith, c.loop-router-test.true)) c.index-tables-router.is in
    record {
      begins = record {
        count = count_more old.begins.items new.begins.items (not c.goes_on.result) router c.loop-router.invariant.begins.count
            c.in_ok-add.ensures.begins;
        each = each_more
            (λ u flag. (one : BothTables) → slice_get tables u ≡ Some one → OnFalse flag (HasKindsBefore tables u one))
            old.begins.items new.begins.items (not c.goes_on.result) router c.loop-router.invariant.begins.count
            c.loop-router.invariant.begins.each c.in_ok-add.ensures.begins
            (λ one at. begins_next c.goes_on.result (before one)
            (subst (λ (b : BothTables). OnTrue c.goes_on.result (before b)) (same_Some both one (sym here ∙ at))
            c.goes_on.ensures));
      };
      have = λ u one below at. ⊎_elim
          (λ (l : u < router). c.in_ok-add.ensures.kept one (c.loop-router.invariant.have u one l at))
          (λ (l : router ≤ u).
          let same : router ≡ u = omega (arith, l, below) in
          subst (HaveLanesOf new)
          (same_Some both one (sym here ∙ subst (λ (k : ℕ). slice_get tables k ≡ Some one) (sym same) at))
          (next_lanes tables router old new both c.goes_on.result c.in_ok-add.ensures.kept c.goes_on.ensures
          c.in_ok-add.ensures.have c.loop-router.invariant.have))
          (cases_lt u router);
    }
