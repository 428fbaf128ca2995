use Rattle.std.proofs.Common.{ℕ, List, Option, ap, ◌∙◌, arith}
use Rattle.std.specs.Prelude.{find}
use Rattle.indexmap.specs.IndexMap.{get}
use Rattle.ios_reader.specs.steps.Networks.{takes, same_block, earlier_line, first_of_blocks}
use Rattle.ios_reader.specs.declared.networks.PlacedNetwork.{PlacedNetwork}
use Rattle.ios_reader.proofs.NetworkFacts.{first_by_tables}
use Rattle.ios_reader.proofs.networks.Networks.first_taking.Goals as goal

pub returns : goal.returns
returns c =
    let blocks : ℕ × ℕ → Option PlacedNetwork = get same_block c.self.inside.blocks in
    c.earlier_line.ensures
    ∙ ap (λ (o : Option PlacedNetwork). earlier_line o c.first_of_lines-other.result) c.first_of_blocks-block.ensures
    ∙ ap (λ (ws : List ℕ). earlier_line (first_of_blocks blocks ws c.args.address) c.first_of_lines-other.result) c.as_slice-2.ensures.value
    ∙ ap (earlier_line (first_of_blocks blocks c.self.inside.wildcards.items c.args.address)) c.first_of_lines-other.ensures
    ∙ ap (λ (ls : List PlacedNetwork). earlier_line (first_of_blocks blocks c.self.inside.wildcards.items c.args.address) (find (takes c.args.address) ls))
    c.as_slice-3.ensures.value
    ∙ first_by_tables c.args.address c.self.inside.all.items c.self.inside.blocks.entries c.self.inside.wildcards.items c.self.inside.others.items
    (c.self.invariant (omega (arith, c.if-len-le-FEW_LINES.false, c.len.ensures)))
    ∙ ap (find (takes c.args.address)) c.self.view_is
