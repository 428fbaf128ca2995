use Rattle.std.proofs.Common.{◌∙◌, ◌<◌, ℕ, List, [], get_or, length, subst, sym}
use Rattle.order_core.specs.Rankings.{flat_of}
use Rattle.rib_mix.specs.Mixture.{Mixture, migration_of}
use Rattle.explained_texts.specs.ToldItems.{AreTold, TellsMore, none_told}
use Rattle.explained_texts.proofs.ReasonLines.{flat_inside}
use Rattle.explained_texts.proofs.ToldTexts.{told_next}
use Rattle.explained_changes.specs.ChangeReasonTexts.{IsChangeLine}
use Rattle.explained_changes.specs.steps.Asked.{IsSafeList}
use Rattle.explained_changes.proofs.reasons.change_reasons_text.Goals as goal

pub new-requires : goal.new-requires
new-requires g c =
    subst (IsSafeList (migration_of g.O.RouteSource.table g.N.RouteSource.table c.args.mixed.now)) (sym c.ranks.ensures.ranks)
    (record { few = c.requires.few; waves = c.requires.waves; sound = c.requires.sound })

pub loop-item-init : goal.loop-item-init
loop-item-init g c = record {
  mixture = c.in_ok-list.ensures.mixture;
  ranks = c.in_ok-list.ensures.ranks ∙ c.ranks.ensures.ranks;
  told = subst (AreTold (IsChangeLine (migration_of g.O.RouteSource.table g.N.RouteSource.table c.args.mixed.now) c.args.waves.now) [])
      (sym c.new-text.ensures) none_told;
}

pub with_told-requires : goal.with_told-requires
with_told-requires g c =
    let ranks = c.args.waves.now in
    let k = c.loop-item.item-index in
    subst (λ (l : List ℕ). get_or l k 0 < length c.loop-item.list.ranks) (sym c.flat-item-items.ensures)
    (subst (λ (l : List ℕ). get_or (flat_of ranks) k 0 < length l) (sym c.loop-item.invariant.ranks)
    (flat_inside (length ranks) ranks c.ranks.ensures.few c.ranks.ensures.ranking k 0
    (subst (λ (l : List ℕ). k < length l) c.flat-item-items.ensures c.loop-item-test.true)))

pub loop-item-preserved : goal.loop-item-preserved
loop-item-preserved g c =
    let old = g.O.RouteSource.table in
    let new = g.N.RouteSource.table in
    let flat = c.flat-item-items.result.now in
    let k = c.loop-item.item-index in
    let list = c.loop-item.list in
    let text = c.loop-item.text in
    let longer = c.in_ok-text.text in
    let kept = c.loop-item.invariant in
    let more : TellsMore (IsChangeLine (migration_of old new c.args.mixed.now) c.args.waves.now) (get_or flat k 0) text longer =
    subst (λ (m : Mixture g.row.O.Denot g.row.N.Denot). TellsMore (IsChangeLine (migration_of old new m) c.args.waves.now) (get_or flat k 0)
    text longer) kept.mixture
    (subst (λ (l : List ℕ). TellsMore (IsChangeLine (migration_of old new list.mixture) l) (get_or flat k 0) text longer) kept.ranks
    c.in_ok-text.ensures.told) in
    record {
      mixture = c.with_told.ensures.mixture ∙ kept.mixture;
      ranks = c.with_told.ensures.ranks ∙ kept.ranks;
      told = told_next (IsChangeLine (migration_of old new c.args.mixed.now) c.args.waves.now) flat k 0 text longer c.loop-item-test.true
          kept.told more;
    }
