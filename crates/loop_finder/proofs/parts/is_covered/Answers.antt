use Rattle.std.proofs.Common.{arith}
use Rattle.loop_finder.specs.Mixes.{mix_of, class_in}
use Rattle.loop_finder.specs.Parts.{never_unsound}
use Rattle.loop_finder.proofs.OnFalse.{on_true}
use Rattle.loop_finder.proofs.PartLaws.{never_unsound as clear_never}
use Rattle.loop_finder.proofs.PartLists.{earlier_covers}
use Rattle.loop_finder.proofs.PartRows.{returns_known}
use Rattle.loop_finder.proofs.parts.is_covered.Goals as goal

pub returns-then-none_marked : goal.returns-then-none_marked
returns-then-none_marked g c =
    never_unsound (clear_never (mix_of g.O.RouteSource.table g.N.RouteSource.table c.args.mixed.now) c.args.atom c.as_slice-marks.result.now c.requires.all
    (returns_known (class_in (mix_of g.O.RouteSource.table g.N.RouteSource.table c.args.mixed.now) c.args.atom) c.args.making.now c.as_slice-marks.result.now
    c.requires.making c.requires.read c.as_slice-marks.ensures.value) c.if-none_marked.ensures)

pub returns : goal.returns
returns g c = on_true c.has_earlier.result c.has_earlier.ensures
    (earlier_covers (mix_of g.O.RouteSource.table g.N.RouteSource.table c.args.mixed.now) c.args.parts.now.items c.args.atom c.as_slice-marks.result.now
    c.requires.parts c.have_answers.ensures c.requires.read.least.class (omega (arith, c.requires.making.marks_many))
    (returns_known (class_in (mix_of g.O.RouteSource.table g.N.RouteSource.table c.args.mixed.now) c.args.atom) c.args.making.now c.as_slice-marks.result.now
    c.requires.making c.requires.read c.as_slice-marks.ensures.value) c.requires.all)
