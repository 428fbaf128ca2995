use Rattle.std.proofs.Common.{length, subst}
use Rattle.igp_theory.specs.Migrations.{migration}
use Rattle.net_model.specs.Network.{Network}
use Rattle.prefix_atoms.specs.Classes.{AreClasses, SourceEntry}
use Rattle.explained_texts.proofs.Ways.{are_lawful}
use Rattle.explained_texts.proofs.way.promise.Goals as goal

pub returns : goal.returns
returns g c =
    let sources = c.args.sources.now in
    let mixed_old = g.O.RouteSource.table c.args.mixed.now.old in
    let mixed_new = g.N.RouteSource.table c.args.mixed.now.new in
    are_lawful sources.net.now (g.O.RouteSource.table sources.old.now) (g.N.RouteSource.table sources.new.now) mixed_old mixed_new
    c.args.mixed.now.classes c.requires.same
    (subst (λ (net : Network). AreClasses (migration net (SourceEntry (length net) mixed_old) (SourceEntry (length net) mixed_new))
    c.args.mixed.now.classes) c.requires.net c.atoms-atoms.ensures.classes)
    (g.O.RouteSource.routers sources.old.now) (g.N.RouteSource.routers sources.new.now) (g.O.RouteSource.linked sources.old.now)
    (g.N.RouteSource.linked sources.new.now) c.routers-routers.ensures.network c.requires.old c.requires.new
    c.routers-old.ensures.lawful c.routers-new.ensures.lawful
