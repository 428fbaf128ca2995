use Rattle.std.proofs.Common.{◌≡◌, ◌&&◌, drop, true}
use Rattle.text_survey.specs.steps.SeenBytes.{are_as_seen}
use Rattle.text_survey.proofs.seen_words.are_as_seen.Given as goal

abbrev pub invariant-loop-byte : goal.invariant-loop-byte
invariant-loop-byte l = (l.so_far && are_as_seen l.begins (drop l.byte-index l.bytes)) ≡ are_as_seen true l.bytes
