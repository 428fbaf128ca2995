use Rattle.std.proofs.Common.{◌≡◌}
use Rattle.printed_lines.specs.Texts.{text_of}
use Rattle.sample_network.specs.SampleTexts.{routers_to}
use Rattle.sample_network.proofs.text.sample_text.Given as goal

abbrev pub invariant-loop-before : goal.invariant-loop-before
invariant-loop-before l = l.text ≡ text_of (routers_to l.routers l.before)
