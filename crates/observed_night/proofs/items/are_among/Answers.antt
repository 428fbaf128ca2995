use Rattle.std.proofs.Common.{rules, ◌≡◌, true, false, arith}
use Rattle.observed_night.proofs.PartFacts.{all_gives, among_more}
use Rattle.observed_night.proofs.items.are_among.Goals as goal

pub loop-each-init : goal.loop-each-init
loop-each-init g c = λ k d below. absurd (omega (arith, below))

pub returns-then-not-is_among : goal.returns-then-not-is_among
returns-then-not-is_among g c =
    let no : c.is_among.result ≡ false = search rules in (
      λ t. let e : false ≡ true = t in absurd cc,
      λ all.
          let yes = c.is_among.ensures.1 (all_gives c.args.items.now c.args.others.now c.loop-each.each-index c.each-item.result
          (omega arith) c.each-item.is all) in
          absurd cc,
    )

pub loop-each-preserved : goal.loop-each-preserved
loop-each-preserved g c =
    let yes : c.is_among.result ≡ true = search rules in
    among_more c.args.items.now c.args.others.now c.loop-each.each-index c.each-item.result (omega arith) c.each-item.is
    (c.is_among.ensures.0 yes) c.loop-each.invariant

pub returns : goal.returns
returns g c = (λ t k d within. c.loop-each.invariant k d (omega (arith, within)), λ all. search rules)
