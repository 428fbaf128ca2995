use Rattle.std.proofs.Common.{◌<◌, List, length, subst, arith}
use Rattle.std.proofs.lemmas.List.{take_all}
use Rattle.ios_reader.specs.steps.Networks.{HasWildcards}
use Rattle.ios_reader.specs.declared.networks.PlacedNetwork.{PlacedNetwork}
use Rattle.ios_reader.proofs.NetworkFacts.{wildcards_more}
use Rattle.ios_reader.proofs.networks.wildcards_of.Goals as goal

abbrev zero_line : PlacedNetwork
zero_line = record { place = 0; network = record { address = 0; wildcard = 0; area = 0 } }

pub loop-line-preserved : goal.loop-line-preserved
loop-line-preserved c =
    let within : c.loop-line.line-index < length c.args.all.now = c.loop-line-test.true in
    wildcards_more c.args.all.now c.loop-line.line-index zero_line c.loop-line.wildcards.items c.add_wildcard.new.wildcards.items within
    c.loop-line.invariant c.in_ok-add_wildcard.ensures.there c.in_ok-add_wildcard.ensures.kept

pub returns : goal.returns
returns c =
    subst (λ (all : List PlacedNetwork). HasWildcards all c.loop-line.wildcards.items)
    (take_all c.loop-line.line-index c.args.all.now (omega (arith, c.loop-line-test.false))) c.loop-line.invariant
