use Rattle.std.proofs.Common.{◌≡◌, take}
use Rattle.std.specs.List.{flat_map}
use Rattle.net_model.specs.RouterNames.{names_of}
use Rattle.failure_texts.specs.FailureTexts.{link_line}
use Rattle.failure_texts.specs.declared.verdict.FailedLink.{FailedLink}
use Rattle.failure_texts.proofs.lines.link_lines.Given as goal

abbrev pub invariant-loop-one : goal.invariant-loop-one
invariant-loop-one l =
    l.text.items ≡ flat_map (λ (x : FailedLink). link_line (names_of l.net) x.link x.verdict) (take l.one-index l.failed)
