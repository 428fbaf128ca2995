use Rattle.std.proofs.Common.{◌≡◌, ◌-◌, ◌++◌}
use Rattle.std.specs.List.{filter, slice_range, slice_split}
use Rattle.net_addr.specs.Spans.{has_bytes}
use Rattle.net_addr.specs.Blanks.{is_blank, spans_of, word_spans}
use Rattle.net_addr.proofs.word.words.Given as goal

abbrev pub invariant-loop-start : goal.invariant-loop-start
invariant-loop-start l =
    l.all.items ++ filter has_bytes (spans_of l.start (slice_split is_blank (slice_range l.text l.start l.span.stop))) ≡ word_spans l.text l.span

abbrev pub decreases-loop-start : goal.decreases-loop-start
decreases-loop-start l = l.span.stop - l.start
