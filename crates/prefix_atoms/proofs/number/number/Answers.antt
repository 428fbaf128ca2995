use Rattle.std.proofs.Common.{ℕ, ◌+◌, List, refl, sym, subst}
use Rattle.prefix_atoms.proofs.NumberSteps.{Numbered, numbered_more}
use Rattle.prefix_atoms.proofs.number.number.Goals as goal

pub loop-place-preserved : goal.loop-place-preserved
loop-place-preserved c =
    subst (λ (ns : List ℕ). Numbered c.args.keys.now c.args.bound (c.loop-place.place + 1) ns c.next_number.new.firsts.items c.next_number.new.seen.items)
    (sym c.in_ok-push.ensures.items)
    (numbered_more c.args.keys.now c.args.bound c.loop-place.place c.loop-place.numbers.items
    (record { seen = c.loop-place.seen.items; firsts = c.loop-place.firsts.items })
    (record { seen = c.next_number.new.seen.items; firsts = c.next_number.new.firsts.items }) _ c.in_ok-next.next c.loop-place.invariant
    (c.requires.keys c.loop-place.place 0 c.loop-place-test.true) refl c.in_ok-next.ensures)
