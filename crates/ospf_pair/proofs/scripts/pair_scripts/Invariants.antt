use Rattle.std.proofs.Common.{◌≡◌, take}
use Rattle.order_core.specs.Rankings.{flat_of}
use Rattle.igp_theory.specs.Waves.{run_along}
use Rattle.printed_lines.specs.Texts.{text_of}
use Rattle.ospf_pair.specs.PairScripts.{pair_parts, pair_scripted}
use Rattle.ospf_pair.proofs.scripts.pair_scripts.Given as goal

abbrev pub invariant-loop-place : goal.invariant-loop-place
invariant-loop-place l =
    l.text ≡ text_of (pair_parts (pair_scripted l.file.version l.pair l.file.waves) (run_along (take l.place (flat_of l.file.waves))))
