use Rattle.std.proofs.Common.{◌≡◌, ◌++◌, take}
use Rattle.net_model.specs.RouterNames.{names_of}
use Rattle.printed_lines.specs.Words.{spaced}
use Rattle.shown_tables.specs.EntryLines.{hop_words}
use Rattle.shown_tables.proofs.entries.add_hops.Given as goal

abbrev pub invariant-loop-hop : goal.invariant-loop-hop
invariant-loop-hop l = l.text.items ≡ l.initial.text.items ++ spaced (hop_words (names_of l.net) (take l.hop-index l.hop-items))
