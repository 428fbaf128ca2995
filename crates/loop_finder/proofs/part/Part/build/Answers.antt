use Rattle.std.proofs.Common.{List, sym, subst}
use Rattle.loop_finder.proofs.PartRows.{part_made}
use Rattle.loop_finder.specs.Mixes.{mix_of}
use Rattle.loop_finder.specs.Parts.{IsPart, PhaseHops}
use Rattle.loop_finder.proofs.part.Part.build.Goals as goal

pub returns-clause-part : goal.returns-clause-part
returns-clause-part g c =
    subst (λ (rows : List PhaseHops). IsPart (mix_of g.O.RouteSource.table g.N.RouteSource.table c.args.mixed.now)
    (record { atom = c.args.class.now.atom; moves = c.args.moves; rows = rows })) (sym c.in_ok-new.ensures.ok)
    (part_made (mix_of g.O.RouteSource.table g.N.RouteSource.table c.args.mixed.now) c.args.class.now.atom c.args.marks.now c.args.moves c.in_ok-rows.rows
    c.requires.atom c.requires.marks c.requires.returns c.requires.moves c.in_ok-rows.ensures)
