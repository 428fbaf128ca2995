use Rattle.std.proofs.Common.{◌∙◌, ◌+◌, ◌<◌, ◌^◌, ℕ, List, [], get_or, length, subst, sym}
use Rattle.order_core.specs.Rankings.{flat_of, rank_of}
use Rattle.rib_mix.specs.Mixture.{Mixture, migration_of}
use Rattle.explained_texts.specs.ReasonTexts.{IsReasonLine}
use Rattle.explained_texts.specs.ToldItems.{AreTold, none_told, TellsMore}
use Rattle.explained_texts.proofs.ReasonLines.{few_ranks, flat_inside}
use Rattle.explained_texts.proofs.ToldTexts.{told_next}
use Rattle.explained_texts.proofs.reasons.reasons_text.Goals as goal

pub new-requires-clause-few : goal.new-requires-clause-few
new-requires-clause-few g c = λ u.
    subst (λ (l : List ℕ). rank_of l u + 1 < 2 ^ 32) (sym c.ranks.ensures.ranks)
    (few_ranks (length c.args.waves.now) c.args.waves.now c.ranks.ensures.few c.ranks.ensures.ranking u)

pub loop-router-init : goal.loop-router-init
loop-router-init g c = record {
  mixture = c.in_ok-list.ensures.mixture;
  ranks = c.in_ok-list.ensures.ranks ∙ c.ranks.ensures.ranks;
  told = subst (AreTold (IsReasonLine (migration_of g.O.RouteSource.table g.N.RouteSource.table c.args.mixed.now) c.args.waves.now) [])
      (sym c.new-text.ensures) none_told;
}

pub with_told-requires : goal.with_told-requires
with_told-requires g c =
    let ranks = c.args.waves.now in
    let k = c.loop-router.router-index in
    subst (λ (l : List ℕ). get_or l k 0 < length c.loop-router.list.ranks) (sym c.flat-router-items.ensures)
    (subst (λ (l : List ℕ). get_or (flat_of ranks) k 0 < length l) (sym c.loop-router.invariant.ranks)
    (flat_inside (length ranks) ranks c.ranks.ensures.few c.ranks.ensures.ranking k 0
    (subst (λ (l : List ℕ). k < length l) c.flat-router-items.ensures c.loop-router-test.true)))

pub loop-router-preserved : goal.loop-router-preserved
loop-router-preserved g c =
    let old = g.O.RouteSource.table in
    let new = g.N.RouteSource.table in
    let flat = c.flat-router-items.result.now in
    let k = c.loop-router.router-index in
    let list = c.loop-router.list in
    let text = c.loop-router.text in
    let longer = c.in_ok-text.text in
    let kept = c.loop-router.invariant in
    let more : TellsMore (IsReasonLine (migration_of old new c.args.mixed.now) c.args.waves.now) (get_or flat k 0) text longer =
    subst (λ (m : Mixture g.row.O.Denot g.row.N.Denot). TellsMore (IsReasonLine (migration_of old new m) c.args.waves.now) (get_or flat k 0)
    text longer) kept.mixture
    (subst (λ (l : List ℕ). TellsMore (IsReasonLine (migration_of old new list.mixture) l) (get_or flat k 0) text longer) kept.ranks
    c.in_ok-text.ensures.told) in
    record {
      mixture = c.with_told.ensures.mixture ∙ kept.mixture;
      ranks = c.with_told.ensures.ranks ∙ kept.ranks;
      told = told_next (IsReasonLine (migration_of old new c.args.mixed.now) c.args.waves.now) flat k 0 text longer c.loop-router-test.true
          kept.told more;
    }
