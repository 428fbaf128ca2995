use Rattle.std.proofs.Common.{◌∙◌, ℕ, List, Option, true, length-set, subst, sym, arith}
use Rattle.std.proofs.lemmas.Grind.{common_steps}
use Rattle.walk_core.specs.Segments.{SendsAcross}
use Rattle.walk_core.specs.steps.Rows.{IsDistanceRow}
use Rattle.walk_core.proofs.FloodLaws.{row_of_tight}
use Rattle.walk_core.proofs.RelaxLaws.{none_at_first}
use Rattle.walk_core.proofs.StaleLaws.{settled_begun}
use Rattle.walk_core.proofs.flood.distances_over.Goals as goal

pub settle-requires-clause-flood : goal.settle-requires-clause-flood
settle-requires-clause-flood c = record {
  joined = c.requires.begun.joined;
  long = c.requires.begun.long;
  marks = length-set _ c.args.root true ∙ c.requires.room.marks;
  room = c.requires.begun.room;
  entered = grind (arith, common_steps, none_at_first);
}

pub settle-requires-clause-settled : goal.settle-requires-clause-settled
settle-requires-clause-settled c =
    settled_begun c.args.graph.now.segments c.args.root c.args.begun.items c.args.flood.now.stale.items
    (omega (arith, c.requires.root, c.requires.room.marks)) (c.requires.room.marks ∙ sym c.requires.begun.long) c.requires.begun.tight

pub returns-clause-row : goal.returns-clause-row
returns-clause-row c =
    let settled = c.settle.ensures in
    subst (λ (l : List (Option ℕ)). IsDistanceRow (SendsAcross c.args.graph.now.segments) c.args.graph.now.count c.args.root l)
    (sym (c.from_vec.ensures ∙ c.take_distances.ensures.taken))
    (row_of_tight c.args.graph.now.segments c.args.graph.now.count c.args.root c.settle.new.flood.distances.items c.requires.root
    c.requires.begun.joined.segments settled.flood.long settled.flood.room (settled.walked c.args.root c.requires.begun.walked) settled.tight)
