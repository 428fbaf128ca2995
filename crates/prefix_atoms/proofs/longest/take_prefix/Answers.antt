use Rattle.std.proofs.Common.{◌≡◌, ◌≤◌, ◌<◌, ◌+◌, ℕ, get_or, arith, ap, sym, ◌∙◌}
use Rattle.net_addr.specs.Boundaries.{last_address}
use Rattle.prefix_atoms.proofs.LongestSteps.{painted_more, painted_all}
use Rattle.prefix_atoms.proofs.longest.take_prefix.Goals as goal

pub loop-i-preserved : goal.loop-i-preserved
loop-i-preserved c =
    let last : c.last-last.result ≡ last_address c.args.prefix = c.last-last.ensures in
    let low : get_or c.args.addresses.now c.loop-i.i 0 ≤ last_address c.args.prefix = omega (arith, c.if-addresses-i.false, last) in
    record {
      count = c.keep_longer.ensures.count ∙ c.loop-i.invariant.count;
      painted = λ ps numbers are number. painted_more _ c.loop-i.found.items c.keep_longer.new.found.items c.loop-i.i
          (record { number = c.args.number; size = c.from.result + 1 }) c.base-base.ensures.block (c.loop-i.invariant.painted ps numbers are number)
          c.loop-i-test.true low number (ap (λ (n : ℕ). n + 1) (sym c.len.ensures.value ∙ sym c.from.ensures)) c.keep_longer.ensures.longer
          c.keep_longer.ensures.earlier;
    }

pub returns-then-addresses-i-clause-longest : goal.returns-then-addresses-i-clause-longest
returns-then-addresses-i-clause-longest c = λ ps numbers number are.
    let last : c.last-last.result ≡ last_address c.args.prefix = c.last-last.ensures in
    painted_all _ c.loop-i.found.items c.loop-i.i c.base-base.ensures.block c.requires.ascending (c.loop-i.invariant.painted ps numbers are number)
    (λ _. let high : last_address c.args.prefix < get_or c.args.addresses.now c.loop-i.i 0 = omega (arith, c.if-addresses-i.true, last) in high)

pub returns-clause-longest : goal.returns-clause-longest
returns-clause-longest c = λ ps numbers number are.
    painted_all _ c.loop-i.found.items c.loop-i.i c.base-base.ensures.block c.requires.ascending (c.loop-i.invariant.painted ps numbers are number)
    (λ l. absurd (omega (arith, c.loop-i-test.false)))
