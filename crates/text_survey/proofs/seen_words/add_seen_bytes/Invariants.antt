use Rattle.std.proofs.Common.{◌≡◌, ◌++◌, drop, false}
use Rattle.text_survey.specs.steps.SeenBytes.{seen_from}
use Rattle.text_survey.proofs.seen_words.add_seen_bytes.Given as goal

abbrev pub invariant-loop-byte : goal.invariant-loop-byte
invariant-loop-byte l =
    l.text.items ++ seen_from l.inside (drop l.byte-index l.bytes) ≡ l.initial.text.items ++ seen_from false l.bytes
