-- No pair is gone at first.
use Rattle.std.proofs.lemmas.Grind.{common_steps}
use Rattle.std.proofs.Common.{◌≡◌, ℕ, false, length, arith, ap, ◌∙◌}
use Rattle.std.proofs.lemmas.Bool.{false≢true}
use Rattle.precedence_set.specs.steps.Sorting.{left_into}
use Rattle.precedence_set.proofs.LayerFacts.{pair_at_below}
use Rattle.precedence_set.proofs.SortFacts.{left_le}
use Rattle.precedence_set.proofs.sorting.count_pairs.Goals as goal

pub overflow_add-counts : goal.overflow_add-counts
overflow_add-counts c = grind (arith, common_steps, left_le, pair_at_below)

pub returns : goal.returns
returns c =
    let whole : c.loop-i.i ≡ length c.args.pairs.now = omega (arith, c.loop-i-test.false, c.loop-i.auto.i-end) in
    record {
      gone = λ (_ : ℕ). false;
      tells = λ i lt. (λ e. absurd (false≢true e), λ stands. absurd (omega (arith, stands.1)));
      each = λ v lt. c.loop-i.invariant v lt ∙ ap (λ (k : ℕ). left_into c.args.pairs.now (λ (_ : ℕ). false) v k) whole;
    }
