use Rattle.std.proofs.Common.{◌+◌, List, sym, subst}
use Rattle.loop_finder.specs.Mixes.{mix_of, class_in}
use Rattle.loop_finder.specs.Parts.{ClassPart, AreParts}
use Rattle.loop_finder.proofs.PartLists.{AreParts-more, AreParts-push}
use Rattle.loop_finder.proofs.PartRows.{returns_known}
use Rattle.loop_finder.proofs.parts.add_known.Goals as goal

pub returns-then-is_covered : goal.returns-then-is_covered
returns-then-is_covered g c =
    AreParts-more (mix_of g.O.RouteSource.table g.N.RouteSource.table c.args.mixed.now) c.args.parts.now.items c.args.class.now.atom c.requires.parts
    c.if-is_covered.ensures

pub build-requires-clause-returns : goal.build-requires-clause-returns
build-requires-clause-returns g c =
    returns_known (class_in (mix_of g.O.RouteSource.table g.N.RouteSource.table c.args.mixed.now) c.args.class.now.atom)
    c.args.making.now c.as_slice-2.result.now c.requires.making c.requires.read c.as_slice-2.ensures.value

pub returns : goal.returns
returns g c = subst (λ (xs : List ClassPart). AreParts (mix_of g.O.RouteSource.table g.N.RouteSource.table c.args.mixed.now) xs (c.args.class.now.atom + 1))
    (sym c.in_ok-push.ensures.items)
    (AreParts-push (mix_of g.O.RouteSource.table g.N.RouteSource.table c.args.mixed.now) c.args.parts.now.items c.in_ok-part.part
    c.args.class.now.atom c.requires.parts
    c.in_ok-part.ensures.part c.in_ok-part.ensures.class)
