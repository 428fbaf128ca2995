use Rattle.std.proofs.lemmas.Grind.{common_steps}
use Rattle.std.proofs.Common.{◌≡◌, ◌+◌, ◌||◌, List, [], length, ap, ◌∙◌, arith}
use Rattle.std.specs.List.{list_any}
use Rattle.ios_sections.specs.TextLines.{TextLine, lines_in, counted_lines, begins_configuration}
use Rattle.ios_reader.specs.steps.Parts.{is_nothing}
use Rattle.ios_reader.proofs.TellingReads.{parts_read, lacks_read}
use Rattle.ios_reader.proofs.ReadFacts.{text_reading}
use Rattle.ios_reader.proofs.reader.read_text.Goals as goal

pub returns : goal.returns
returns c =
    let lines : List TextLine = counted_lines (lines_in c.args.text.now) in
    let none : c.loop-part.told.lines ≡ [] = grind (arith, common_steps) in
    let behind : c.number.result + 1 ≡ length (lines_in c.args.text.now) + 1 = grind (arith, common_steps) in
    text_reading c.args.text.now c.loop-part.reading c.in_ok-read.read _ _
    (parts_read lines c.loop-part.told.lines c.loop-part.part.items c.loop-part.reading none c.loop-part.invariant.read)
    (c.lacks_end-lacks.ensures
    ∙ ap (λ (ls : List TextLine). is_nothing c.loop-part.reading || list_any begins_configuration ls) c.as_slice.ensures.value
    ∙ lacks_read lines c.loop-part.told.lines c.loop-part.part.items c.loop-part.reading none c.loop-part.invariant.read)
    behind c.in_ok-read.ensures.faults c.in_ok-read.ensures.configs
