use Rattle.std.proofs.Common.{◌≡◌, ◌∙◌}
use Rattle.std.proofs.lemmas.Result.{IfOk-weaker}
use Rattle.net_model.specs.DestLists.{all_dests}
use Rattle.igp_theory.specs.Migrations.{migration}
use Rattle.prefix_atoms.specs.Classes.{Classes, AreClasses, SourceEntry}
use Rattle.prefix_atoms.specs.Originated.{all_originated}
use Rattle.prefix_atoms.specs.steps.Lists.{source_prefixes, AreClassesOf}
use Rattle.prefix_atoms.proofs.Occurrences.{classes_collected, gathered}
use Rattle.prefix_atoms.proofs.atoms.Atoms.build.Goals as goal

pub returns : goal.returns
returns g c =
    let originated : c.as_slice.result.now ≡ all_originated c.args.net.now = c.as_slice.ensures.value ∙ c.in_ok-originated.ensures in
    IfOk-weaker c.classes_of.result
    (λ (classes : Classes). AreClassesOf c.keep_distinct_prefixes.new.prefixes.items c.as_slice.result.now classes)
    (λ (classes : Classes). AreClasses (migration c.args.net.now
    (SourceEntry (g.O.RouteSource.routers c.args.old.now) (g.O.RouteSource.table c.args.old.now))
    (SourceEntry (g.N.RouteSource.routers c.args.new.now) (g.N.RouteSource.table c.args.new.now))) classes)
    (λ classes are.
    classes_collected c.args.net.now (g.O.RouteSource.routers c.args.old.now) (g.N.RouteSource.routers c.args.new.now)
    (g.O.RouteSource.table c.args.old.now) (g.N.RouteSource.table c.args.new.now)
    c.keep_distinct_prefixes.new.prefixes.items c.as_slice.result.now classes
    (gathered c.new-prefixes.result.items c.add_net.new.prefixes.items c.add_source.new.prefixes.items
    c.add_source-2.new.prefixes.items c.keep_distinct_prefixes.new.prefixes.items (all_dests c.args.net.now)
    (source_prefixes (g.O.RouteSource.table c.args.old.now) (g.O.RouteSource.routers c.args.old.now))
    (source_prefixes (g.N.RouteSource.table c.args.new.now) (g.N.RouteSource.routers c.args.new.now))
    c.new-prefixes.ensures.items c.in_ok-add_net.ensures
    c.in_ok-add_source.ensures c.in_ok-add_source-2.ensures c.keep_distinct_prefixes.ensures.same)
    originated are)
    c.classes_of.ensures
