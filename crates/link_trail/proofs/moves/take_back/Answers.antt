use Rattle.std.proofs.Common.{arith}
use Rattle.std.proofs.lemmas.Grind.{common_steps}
use Rattle.std.proofs.Common.{sym, ◌∙◌}
use Rattle.link_trail.proofs.WholeLemmas.{take_back-linked, take_back-unlinked, placed-latest, gap-latest}
use Rattle.link_trail.proofs.moves.take_back.Goals as goal

pub splice_out-requires-clause-node : goal.splice_out-requires-clause-node
splice_out-requires-clause-node c =
    (placed-latest c.args.nodes.now c.args.ends.now c.args.latest c.in-Linked.list c.in-Linked.node c.in-Linked.is c.requires).node_in_range

pub splice_out-requires-clause-previous : goal.splice_out-requires-clause-previous
splice_out-requires-clause-previous c =
    (placed-latest c.args.nodes.now c.args.ends.now c.args.latest c.in-Linked.list c.in-Linked.node c.in-Linked.is c.requires).previous_in_range

pub splice_out-requires-clause-next : goal.splice_out-requires-clause-next
splice_out-requires-clause-next c =
    (placed-latest c.args.nodes.now c.args.ends.now c.args.latest c.in-Linked.list c.in-Linked.node c.in-Linked.is c.requires).next_in_range

pub following-next-requires-clause-previous : goal.following-next-requires-clause-previous
following-next-requires-clause-previous c =
    (gap-latest c.args.nodes.now c.args.ends.now c.args.latest c.in-Unlinked.list c.in-Unlinked.node c.in-Unlinked.previous c.in-Unlinked.is
    c.requires).0.previous_in_range

pub splice_in-requires-clause-previous : goal.splice_in-requires-clause-previous
splice_in-requires-clause-previous c =
    (gap-latest c.args.nodes.now c.args.ends.now c.args.latest c.in-Unlinked.list c.in-Unlinked.node c.in-Unlinked.previous c.in-Unlinked.is
    c.requires).0.previous_in_range

pub splice_in-requires-clause-next : goal.splice_in-requires-clause-next
splice_in-requires-clause-next c = λ n e.
    (gap-latest c.args.nodes.now c.args.ends.now c.args.latest c.in-Unlinked.list c.in-Unlinked.node c.in-Unlinked.previous c.in-Unlinked.is
    c.requires).0.next_in_range n
    (sym c.following-next.ensures ∙ e)

pub returns-in-Linked : goal.returns-in-Linked
returns-in-Linked c = grind (arith, common_steps, take_back-linked)

pub returns-in-Unlinked : goal.returns-in-Unlinked
returns-in-Unlinked c = grind (arith, common_steps, take_back-unlinked)
