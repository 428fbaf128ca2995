use Rattle.std.proofs.Common.{◌≡◌, ◌||◌, bytes_eq, drop}
use Rattle.std.specs.List.{list_any}
use Rattle.ios_lines.specs.Words.{Word}
use Rattle.text_survey.specs.ToldLines.{vrf_names}
use Rattle.text_survey.proofs.vrf_names.vrf_names.Given as goal

abbrev pub invariant-loop-i : goal.invariant-loop-i
invariant-loop-i l = (q : Word) →
    (list_any (bytes_eq q) l.names || list_any (bytes_eq q) (vrf_names (drop l.i l.lines))) ≡ list_any (bytes_eq q) (vrf_names l.lines)
