use Rattle.std.proofs.Common.{◌≡◌, ◌+◌, ◌++◌, ℕ, true, false, List, Vec, Global, drop, ap, sym, ◌∙◌, arith}
use Rattle.std.specs.List.{slice_range}
use Rattle.ios_sections.specs.TextLines.{Part, is_end, parts_after}
use Rattle.ios_sections.specs.Sections.{sections_from_first}
use Rattle.isis_writer.specs.Deltas.{delta_block, delta_parts}
use Rattle.ios_reader.proofs.PartSteps.{at_end, at_other}
use Rattle.isis_writer.proofs.delta.all_deltas.Goals.{then-is_end+in_ok-new+in_ok-extend_from_slice, else-is_end}
use Rattle.isis_writer.proofs.delta.all_deltas.Goals as goal

pub loop-i-preserved : goal.loop-i-preserved
loop-i-preserved c =
    let parts : ℕ → List Part → List ℕ = λ from more. delta_parts c.args.net.now c.args.settled.now more in
    let counted = c.args.counted.now in
    let i = c.loop-i.i in
    let x = c.index-counted-i.result in
    let F : List ℕ → ℕ → List ℕ = λ all start. all ++ parts 0 (parts_after (slice_range counted start (i + 1)) (drop (i + 1) counted)) in
    elim c.if-is_end.branch [
      | then-is_end+in_ok-new+in_ok-extend_from_slice w ↦
          let ends : is_end x ≡ true = sym c.is_end.ensures ∙ w.if-is_end.true in
          let new : w.as_slice.result.now ≡ delta_block c.args.net.now c.args.settled.now (sections_from_first (slice_range counted c.loop-i.start i)) =
          w.as_slice.ensures ∙ w.in_ok-new.ensures in
          record {
            start = omega (arith, w.start-is);
            rest = ap (λ (v : Vec ℕ Global). F v.items c.if-is_end.start) w.all-is
                ∙ ap (F w.extend_from_slice.new.self.items) w.start-is
                ∙ ap (λ (items : List ℕ). F items (i + 1)) w.in_ok-extend_from_slice.ensures.items
                ∙ at_end parts counted i x c.loop-i-test.true c.index-counted-i.is c.loop-i.start 0 0 c.loop-i.all.items w.as_slice.result.now _ ends
                (λ more. ap (λ (t : List ℕ). t ++ parts 0 more) (sym new)) c.loop-i.invariant.rest;
          }
      | else-is_end w ↦
          let other : is_end x ≡ false = sym c.is_end.ensures ∙ w.if-is_end.false in
          record {
            start = omega (arith, w.start-is, c.loop-i.invariant.start);
            rest = ap (λ (v : Vec ℕ Global). F v.items c.if-is_end.start) w.all-is
                ∙ ap (F c.loop-i.all.items) w.start-is
                ∙ at_other parts counted i x c.loop-i-test.true c.index-counted-i.is c.loop-i.start 0 c.loop-i.all.items _
                c.loop-i.invariant.start other c.loop-i.invariant.rest;
          }
    ]
