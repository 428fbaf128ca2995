use Rattle.std.proofs.Common.{◌≡◌, take}
use Rattle.rib_mix.specs.Mixture.{migration_of}
use Rattle.explained_texts.specs.ReasonTexts.{IsReasonLine}
use Rattle.explained_texts.specs.ToldItems.{AreTold}
use Rattle.explained_texts.proofs.reasons.reasons_text.Given as goal

abbrev pub invariant-loop-router : goal.invariant-loop-router
invariant-loop-router g l = record {
  mixture : l.list.mixture ≡ l.fn.mixed;
  ranks : l.list.ranks ≡ l.waves;
  told : AreTold (IsReasonLine (migration_of g.O.RouteSource.table g.N.RouteSource.table l.fn.mixed) l.waves)
      (take l.router-index l.router-items) l.text;
}
