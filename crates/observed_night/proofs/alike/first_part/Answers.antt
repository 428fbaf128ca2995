use Rattle.std.proofs.Common.{rules, ◌≡◌, true, false, arith}
use Rattle.observed_night.proofs.PartFacts.{alike_more, place_below}
use Rattle.observed_night.proofs.alike.first_part.Goals as goal

pub loop-place-init : goal.loop-place-init
loop-place-init c = λ part below. absurd (omega (arith, below))

pub returns-then-not-is_alike_in : goal.returns-then-not-is_alike_in
returns-then-not-is_alike_in c =
    let no : c.is_alike_in.result ≡ false = search rules in
    record {
      differ = λ alike. let yes = c.is_alike_in.ensures.1 alike in cc;
      before = λ part below. let at = c.part_at-part.ensures in c.loop-place.invariant part (omega (arith, below, at));
    }

pub loop-place-preserved : goal.loop-place-preserved
loop-place-preserved c =
    let yes : c.is_alike_in.result ≡ true = search rules in
    alike_more c.args.one.now c.args.other.now c.loop-place.place c.part_at-part.result c.part_at-part.ensures
    (c.is_alike_in.ensures.0 yes) c.loop-place.invariant

pub returns : goal.returns
returns c = λ part. let below = place_below part in c.loop-place.invariant part (omega (arith, below))
