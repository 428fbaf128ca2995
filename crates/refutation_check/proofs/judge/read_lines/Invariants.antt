use Rattle.std.proofs.Common.{◌≡◌, length, take}
use Rattle.plan_theory.specs.Ranked.{size_of}
use Rattle.refutation_check.specs.steps.Judged.{started_of}
use Rattle.refutation_check.specs.steps.Reading.{HasReadLines, line_bytes}
use Rattle.refutation_check.proofs.judge.read_lines.Given as goal

abbrev pub invariant-loop-place : goal.invariant-loop-place
invariant-loop-place g l =
    HasReadLines l.asked.items (started_of g.O.RouteSource.table g.N.RouteSource.table l.asked.mixed.now l.asked.start.now)
    (take l.place (line_bytes l.text l.entries)) l.reading
    × (l.reading.walk.routers ≡ size_of l.asked.items (length l.asked.mixed.now.net))
