use Rattle.std.proofs.Common.{◌<◌}
use Rattle.observed_night.specs.Parts.{AreAlikeIn, part_place}
use Rattle.observed_night.specs.declared.part.Part.{Part}
use Rattle.observed_night.proofs.alike.first_part.Given as goal

abbrev pub invariant-loop-place : goal.invariant-loop-place
invariant-loop-place l = (part : Part) → part_place part < l.place → AreAlikeIn part l.one l.other
