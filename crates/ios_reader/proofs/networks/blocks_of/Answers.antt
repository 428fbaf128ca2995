use Rattle.std.proofs.Common.{◌<◌, Option, ◌∷◌, [], length, get_or, sym, ap, ◌∙◌}
use Rattle.std.specs.Prelude.{find}
use Rattle.std.specs.Option.{option_or}
use Rattle.ios_reader.specs.steps.Networks.{is_of_block}
use Rattle.ios_reader.specs.declared.networks.PlacedNetwork.{PlacedNetwork}
use Rattle.ios_reader.proofs.NetworkFacts.{find_more}
use Rattle.ios_reader.proofs.networks.blocks_of.Goals as goal

abbrev zero_line : PlacedNetwork
zero_line = record { place = 0; network = record { address = 0; wildcard = 0; area = 0 } }

pub loop-line-preserved : goal.loop-line-preserved
loop-line-preserved c key =
    let within : c.loop-line.line-index < length c.args.all.now = c.loop-line-test.true in
    c.in_ok-add_block.ensures key
    ∙ ap (λ (o : Option PlacedNetwork). option_or o (find (is_of_block key) (get_or c.args.all.now c.loop-line.line-index zero_line ∷ [])))
    (c.loop-line.invariant key)
    ∙ sym (find_more (is_of_block key) c.args.all.now c.loop-line.line-index zero_line within)
