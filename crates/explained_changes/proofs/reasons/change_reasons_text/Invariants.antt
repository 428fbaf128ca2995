use Rattle.std.proofs.Common.{◌≡◌, take}
use Rattle.rib_mix.specs.Mixture.{migration_of}
use Rattle.explained_texts.specs.ToldItems.{AreTold}
use Rattle.explained_changes.specs.ChangeReasonTexts.{IsChangeLine}
use Rattle.explained_changes.proofs.reasons.change_reasons_text.Given as goal

abbrev pub invariant-loop-item : goal.invariant-loop-item
invariant-loop-item g l = record {
  mixture : l.list.mixture ≡ l.fn.mixed;
  ranks : l.list.ranks ≡ l.waves;
  told : AreTold (IsChangeLine (migration_of g.O.RouteSource.table g.N.RouteSource.table l.fn.mixed) l.waves)
      (take l.item-index l.item-items) l.text;
}
