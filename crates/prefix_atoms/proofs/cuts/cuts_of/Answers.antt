use Rattle.std.proofs.Common.{◌≡◌, List, take, All, Contains, sym, subst}
use Rattle.net_addr.specs.Addresses.{Block, IsBlock}
use Rattle.prefix_atoms.proofs.CutSteps.{boundaries_more, blocks_more, take_whole}
use Rattle.prefix_atoms.proofs.cuts.cuts_of.Goals as goal

pub loop-prefix-preserved : goal.loop-prefix-preserved
loop-prefix-preserved c = record {
  first = c.in_ok-add_boundaries.ensures.gains.kept 0 c.loop-prefix.invariant.first;
  boundaries = boundaries_more c.args.prefixes.now c.loop-prefix.prefix-index c.prefix-item.result c.loop-prefix.cuts.items c.add_boundaries.new.cuts.items
      c.loop-prefix-test.true c.prefix-item.is c.in_ok-add_boundaries.ensures.gains c.loop-prefix.invariant.boundaries;
  blocks = blocks_more c.args.prefixes.now c.loop-prefix.prefix-index c.prefix-item.result c.loop-prefix-test.true c.prefix-item.is
      c.loop-prefix.invariant.blocks c.in_ok-add_boundaries.ensures.block;
}

pub returns-clause-cuts : goal.returns-clause-cuts
returns-clause-cuts c =
    let all : take c.loop-prefix.prefix-index c.args.prefixes.now ≡ c.args.prefixes.now =
    take_whole c.args.prefixes.now c.loop-prefix.prefix-index c.loop-prefix-test.false in
    record {
      ascending = c.keep_distinct_numbers.ensures.ascending;
      below = c.keep_distinct_numbers.ensures.below;
      first = (c.keep_distinct_numbers.ensures.same 0).1 c.loop-prefix.invariant.first;
      boundaries = λ p n member boundary low. (c.keep_distinct_numbers.ensures.same n).1
          (c.loop-prefix.invariant.boundaries p n (subst (λ (qs : List Block). Contains qs p) (sym all) member) boundary low);
    }

pub returns-clause-blocks : goal.returns-clause-blocks
returns-clause-blocks c =
    let all : take c.loop-prefix.prefix-index c.args.prefixes.now ≡ c.args.prefixes.now =
    take_whole c.args.prefixes.now c.loop-prefix.prefix-index c.loop-prefix-test.false in
    subst (All IsBlock) all c.loop-prefix.invariant.blocks
