use Rattle.std.proofs.Common.{◌≡◌, ◌+◌, ◌++◌, ℕ, true, false, List, Vec, Global, drop, ap, ap₂, sym, ◌∙◌, arith}
use Rattle.std.specs.List.{slice_range}
use Rattle.igp_theory.specs.States.{state_of}
use Rattle.igp_theory.specs.declared.phase.Phase.{Phase}
use Rattle.ios_sections.specs.TextLines.{is_end, parts_after}
use Rattle.ios_reader.specs.Places.{between}
use Rattle.applied_changes.specs.NamedPhases.{phase_named}
use Rattle.applied_changes.specs.steps.AppliedParts.{applied_parts}
use Rattle.ios_reader.proofs.PartSteps.{at_end, at_other}
use Rattle.applied_changes.proofs.applied.with_blocks.Goals.{then-is_end+in_ok-block+in_ok-add_block, else-is_end}
use Rattle.applied_changes.proofs.applied.with_blocks.Goals as goal

pub loop-i-preserved : goal.loop-i-preserved
loop-i-preserved c =
    let text = c.args.text.now in
    let phases : List ℕ → Phase = phase_named c.args.net.now (state_of c.args.order.now c.args.changes) in
    let counted = c.as_slice-counted.result.now in
    let i = c.loop-i.i in
    let x = c.index-counted-i.result in
    let F : List ℕ → ℕ → ℕ → List ℕ = λ all from start. all ++ applied_parts phases text from
    (parts_after (slice_range counted start (i + 1)) (drop (i + 1) counted)) in
    elim c.if-is_end.branch [
      | then-is_end+in_ok-block+in_ok-add_block w ↦
          let ends : is_end x ≡ true = sym c.is_end.ensures ∙ w.if-is_end.true in
          let end = w.start_of-end.result in
          let next = rw w.number.ensures at w.start_of-end.ensures in
          let block = w.as_slice-then-is_end-2.result.now in
          record {
            start = omega (arith, w.start-is);
            rest = ap (λ (v : Vec ℕ Global). F v.items c.if-is_end.from c.if-is_end.start) w.all-is
                ∙ ap₂ (F w.add_block.new.all.items) w.from-is w.start-is
                ∙ ap (λ (items : List ℕ). F items end (i + 1)) w.in_ok-add_block.ensures
                ∙ at_end (applied_parts phases text) counted i x c.loop-i-test.true c.index-counted-i.is c.loop-i.start c.loop-i.from
                end c.loop-i.all.items (w.between.result.now ++ block) _ ends
                (λ more. sym (ap (λ (before : List ℕ). (before ++ block) ++ applied_parts phases text end more) w.between.ensures
                ∙ ap₂ (λ (n : ℕ) (t : List ℕ). (between text c.loop-i.from n ++ t) ++ applied_parts phases text n more) next
                (w.as_slice-then-is_end-2.ensures ∙ w.in_ok-block.ensures)))
                c.loop-i.invariant.rest;
          }
      | else-is_end w ↦
          let other : is_end x ≡ false = sym c.is_end.ensures ∙ w.if-is_end.false in
          record {
            start = omega (arith, w.start-is, c.loop-i.invariant.start);
            rest = ap (λ (v : Vec ℕ Global). F v.items c.if-is_end.from c.if-is_end.start) w.all-is
                ∙ ap₂ (F c.loop-i.all.items) w.from-is w.start-is
                ∙ at_other (applied_parts phases text) counted i x c.loop-i-test.true c.index-counted-i.is c.loop-i.start c.loop-i.from c.loop-i.all.items _
                c.loop-i.invariant.start other c.loop-i.invariant.rest;
          }
    ]
