use Rattle.loop_finder.specs.Parts.{never_unsound}
use Rattle.loop_finder.proofs.PartLaws.{never_without}
use Rattle.loop_finder.proofs.PartLists.{AreParts-more}
use Rattle.loop_finder.specs.Mixes.{mix_of}
use Rattle.loop_finder.proofs.parts.add_part.Goals as goal

pub returns-in_default-clause-parts : goal.returns-in_default-clause-parts
returns-in_default-clause-parts g c =
    AreParts-more (mix_of g.O.RouteSource.table g.N.RouteSource.table c.args.mixed.now) c.args.parts.now.items c.args.atom c.requires.parts
    (never_unsound (never_without (mix_of g.O.RouteSource.table g.N.RouteSource.table c.args.mixed.now) c.args.atom c.in_default.ensures.target))

pub returns-then-is_alike-clause-parts : goal.returns-then-is_alike-clause-parts
returns-then-is_alike-clause-parts g c =
    AreParts-more (mix_of g.O.RouteSource.table g.N.RouteSource.table c.args.mixed.now) c.args.parts.now.items c.args.atom
    c.requires.parts c.if-is_alike.ensures
