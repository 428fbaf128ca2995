use Rattle.std.proofs.Common.{◌≡◌, ◌+◌, ℕ, true, false, ap, sym, ◌∙◌, arith}
use Rattle.std.specs.List.{slice_range}
use Rattle.ios_sections.specs.TextLines.{is_end}
use Rattle.ios_reader.proofs.PartFacts.{rest_at_end, rest_on}
use Rattle.text_survey.specs.ToldLines.{told_part}
use Rattle.text_survey.proofs.ToldFacts.{part_on, part_told}
use Rattle.text_survey.proofs.told_sections.told_lines.Goals.{then-is_end+in_ok-add_part, else-is_end}
use Rattle.text_survey.proofs.told_sections.told_lines.Goals as goal

pub loop-i-preserved : goal.loop-i-preserved
loop-i-preserved c =
    elim c.if-is_end.branch [
      | then-is_end+in_ok-add_part w ↦
          let ends : is_end c.index-counted-i.result ≡ true = sym c.is_end.ensures ∙ w.if-is_end.true in
          record {
            start = omega arith;
            rest = ap (λ (n : ℕ). slice_range c.args.counted.now n (c.loop-i.i + 1)) w.start-is
                ∙ rest_at_end c.args.counted.now c.loop-i.i c.index-counted-i.result c.loop-i-test.true c.index-counted-i.is ends;
            told = ap (λ t. t.items) w.told-is
                ∙ part_told c.args.counted.now c.loop-i.i c.index-counted-i.result c.loop-i-test.true c.index-counted-i.is
                told_part (slice_range c.args.counted.now c.loop-i.start c.loop-i.i) w.number.result c.loop-i.told.items w.add_part.new.told.items ends
                c.loop-i.invariant.rest w.number.ensures c.loop-i.invariant.told w.in_ok-add_part.ensures;
          }
      | else-is_end w ↦
          let on : is_end c.index-counted-i.result ≡ false = sym c.is_end.ensures ∙ w.if-is_end.false in
          record {
            start = omega arith;
            rest = ap (λ (n : ℕ). slice_range c.args.counted.now n (c.loop-i.i + 1)) w.start-is
                ∙ rest_on c.args.counted.now c.loop-i.i c.index-counted-i.result c.loop-i-test.true c.index-counted-i.is c.loop-i.start c.loop-i.invariant.start
                c.loop-i.invariant.rest on;
            told = ap (λ t. t.items) w.told-is
                ∙ part_on c.args.counted.now c.loop-i.i c.index-counted-i.result c.loop-i-test.true c.index-counted-i.is
                told_part c.loop-i.told.items on c.loop-i.invariant.told;
          }
    ]
