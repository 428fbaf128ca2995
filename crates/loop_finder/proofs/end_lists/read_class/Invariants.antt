use Rattle.std.proofs.Common.{◌≡◌, length, take}
use Rattle.loop_finder.specs.steps.Making.{ReadsSeen}
use Rattle.loop_finder.specs.Mixes.{mix_of, class_in}
use Rattle.loop_finder.proofs.end_lists.read_class.Given as goal

abbrev pub invariant-loop-router : goal.invariant-loop-router
invariant-loop-router g l = record {
  olds_many : length l.lists.olds ≡ length l.mixed.net;
  news_many : length l.lists.news ≡ length l.mixed.net;
  reads : ReadsSeen (class_in (mix_of g.O.RouteSource.table g.N.RouteSource.table l.mixed) l.atom)
      (take l.router-index l.routers) l.initial.lists l.lists;
}
