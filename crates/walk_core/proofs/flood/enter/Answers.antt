use Rattle.std.proofs.Common.{◌≡◌, ◌∙◌, ◌<◌, List, None, Option, ℕ, length, sym, subst, arith}
use Rattle.std.proofs.lemmas.List.{get_or_default}
use Rattle.walk_core.specs.Distances.{distance_at}
use Rattle.walk_core.specs.declared.flood.Flood.{Flood}
use Rattle.walk_core.specs.steps.Flooding.{AreEntered}
use Rattle.walk_core.specs.steps.Relaxing.{IsAtMost}
use Rattle.walk_core.specs.steps.SegmentWalks.{Joined}
use Rattle.walk_core.proofs.FloodLaws.{at_most_more}
use Rattle.walk_core.proofs.StaleLaws.{entered_at}
use Rattle.walk_core.proofs.flood.enter.Goals as goal

pub returns-then-is_at_most-clause-all : goal.returns-then-is_at_most-clause-all
returns-then-is_at_most-clause-all c port among =
    let entries : List (Option ℕ) = c.args.flood.now.entries.items in
    let within : c.args.place < length entries = omega (arith, c.requires.place, c.requires.flood.entered.long) in
    let at : c.index.result.now ≡ distance_at entries c.args.place =
    c.index.ensures ∙ get_or_default entries c.args.place c.index.result.now None within in
    let known : IsAtMost (distance_at entries c.args.place) c.args.found = subst (λ (d : Option ℕ). IsAtMost d c.args.found) at c.if-is_at_most.ensures in
    at_most_more (distance_at c.args.flood.now.distances.items port.vertex) known.value c.args.found
    (c.requires.flood.entered.each c.args.place known.value known.is port among) known.below

pub returns-clause-flood : goal.returns-clause-flood
returns-clause-flood c =
    let graph : Joined = c.args.graph.now in
    let now : Flood = c.args.flood.now in
    let after : Flood = c.lower.new.flood in
    record {
      joined = c.lower.ensures.flood.joined;
      long = c.lower.ensures.flood.long;
      marks = c.lower.ensures.flood.marks;
      room = c.lower.ensures.flood.room;
      entered = subst (λ (l : List (Option ℕ)). AreEntered graph.segments after.distances.items l) (sym c.note_entry.ensures)
          (entered_at graph.segments c.args.place c.args.found after.distances.items after.distances.items after.entries.items c.requires.place
          c.lower.ensures.flood.entered (λ v most is. is) c.lower.ensures.all);
    }
