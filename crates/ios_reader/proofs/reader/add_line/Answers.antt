use Rattle.std.proofs.Common.{◌≡◌, ℕ, true, List, sym, subst, ◌∙◌}
use Rattle.ios_sections.specs.TextLines.{TextLine, is_end}
use Rattle.ios_reader.specs.steps.Parts.{part_at, IsPartRead, TakesInLine}
use Rattle.ios_reader.proofs.PartFacts.{taken_at_end}
use Rattle.ios_reader.proofs.reader.add_line.Goals as goal

pub returns-in_ok-add_part : goal.returns-in_ok-add_part
returns-in_ok-add_part c =
    let ends : is_end c.args.line ≡ true = sym c.is_end.ensures ∙ c.if-is_end.true in
    let of_lines : IsPartRead (part_at c.args.part.now.items c.number.result) c.in_ok-read.read =
    subst (λ (ls : List TextLine). IsPartRead (part_at ls c.number.result) c.in_ok-read.read) c.as_slice.ensures.value c.in_ok-read.ensures in
    let read : IsPartRead (part_at c.args.part.now.items c.args.line.number) c.in_ok-read.read =
    subst (λ (n : ℕ). IsPartRead (part_at c.args.part.now.items n) c.in_ok-read.read) c.number.ensures of_lines in
    subst (λ (ls : List TextLine). TakesInLine c.args.part.now.items c.args.reading.now c.args.line ls c.add_part.new.reading) (sym c.clear.ensures.items)
    (taken_at_end c.args.part.now.items c.args.line c.args.reading.now c.add_part.new.reading c.in_ok-read.read ends read
    c.in_ok-add_part.ensures.faults c.in_ok-add_part.ensures.configs)
