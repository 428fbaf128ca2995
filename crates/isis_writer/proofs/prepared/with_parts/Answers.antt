use Rattle.std.proofs.Common.{◌≡◌, ◌+◌, ◌++◌, ℕ, true, false, List, Vec, Global, drop, ap, ap₂, sym, ◌∙◌, arith}
use Rattle.std.specs.List.{slice_range}
use Rattle.ios_sections.specs.TextLines.{is_end, parts_after}
use Rattle.ios_reader.specs.Places.{between, start_of}
use Rattle.isis_writer.specs.Prepared.{new_block, prepared_parts}
use Rattle.ios_reader.proofs.PartSteps.{at_end, at_other}
use Rattle.isis_writer.proofs.prepared.with_parts.Goals.{then-is_end+in_ok-new+in_ok-from, else-is_end}
use Rattle.isis_writer.proofs.prepared.with_parts.Goals as goal

pub loop-i-preserved : goal.loop-i-preserved
loop-i-preserved c =
    let text = c.args.text.now.bytes.now in
    let parts = prepared_parts (new_block c.args.net.now c.args.settled.now) text in
    let counted = c.args.counted.now in
    let i = c.loop-i.i in
    let x = c.index-counted-i.result in
    let F : List ℕ → ℕ → ℕ → List ℕ = λ all from start. all ++ parts from
    (parts_after (slice_range counted start (i + 1)) (drop (i + 1) counted)) in
    elim c.if-is_end.branch [
      | then-is_end+in_ok-new+in_ok-from w ↦
          let ends : is_end x ≡ true = sym c.is_end.ensures ∙ w.if-is_end.true in
          let added = rw w.number.ensures at w.in_ok-from.ensures.added in
          let next = rw w.number.ensures at w.in_ok-from.ensures.next in
          let head = between text c.loop-i.from (start_of text x.number) in
          let last = between text (start_of text x.number) (start_of text (x.number + 1)) in
          record {
            start = omega (arith, w.start-is);
            rest = ap (λ (v : Vec ℕ Global). F v.items c.if-is_end.from c.if-is_end.start) w.all-is
                ∙ ap₂ (F w.add_part.new.all.items) w.from-is w.start-is
                ∙ ap (λ (items : List ℕ). F items w.in_ok-from.from (i + 1)) added
                ∙ at_end parts counted i x c.loop-i-test.true c.index-counted-i.is c.loop-i.start c.loop-i.from
                w.in_ok-from.from c.loop-i.all.items (head ++ w.as_slice.result.now ++ last) _ ends
                (λ more. sym (ap₂ (λ (n : ℕ) (t : List ℕ). (head ++ t ++ last) ++ parts n more) next
                (w.as_slice.ensures ∙ w.in_ok-new.ensures)))
                c.loop-i.invariant.rest;
          }
      | else-is_end w ↦
          let other : is_end x ≡ false = sym c.is_end.ensures ∙ w.if-is_end.false in
          record {
            start = omega (arith, w.start-is, c.loop-i.invariant.start);
            rest = ap (λ (v : Vec ℕ Global). F v.items c.if-is_end.from c.if-is_end.start) w.all-is
                ∙ ap₂ (F c.loop-i.all.items) w.from-is w.start-is
                ∙ at_other parts counted i x c.loop-i-test.true c.index-counted-i.is c.loop-i.start
                c.loop-i.from c.loop-i.all.items _
                c.loop-i.invariant.start other c.loop-i.invariant.rest;
          }
    ]
