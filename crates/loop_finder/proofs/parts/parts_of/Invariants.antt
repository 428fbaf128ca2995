use Rattle.loop_finder.specs.steps.Making.{KnowsBoth}
use Rattle.loop_finder.specs.Parts.{AreParts}
use Rattle.loop_finder.specs.Mixes.{mix_of}
use Rattle.loop_finder.proofs.parts.parts_of.Given as goal

abbrev pub invariant-loop-atom : goal.invariant-loop-atom
invariant-loop-atom g l = record {
  makings : KnowsBoth (mix_of g.O.RouteSource.table g.N.RouteSource.table l.mixed) l.makings;
  parts : AreParts (mix_of g.O.RouteSource.table g.N.RouteSource.table l.mixed) l.parts.items l.atom;
}
