use Rattle.std.proofs.Common.{◌<◌}
use Rattle.prefix_atoms.specs.steps.Lists.{source_prefixes, AreUnseen, GainsPrefixes}
use Rattle.prefix_atoms.proofs.collect.add_source.Given as goal

abbrev pub invariant-loop-router : goal.invariant-loop-router
invariant-loop-router g l = record {
  gains : GainsPrefixes l.initial.prefixes.items l.prefixes.items (source_prefixes (g.S.RouteSource.table l.source) l.router);
  unseen : 0 < g.S.RouteSource.routers l.source → AreUnseen (g.S.RouteSource.prefixes l.source) l.unseen.items l.prefixes.items;
}
