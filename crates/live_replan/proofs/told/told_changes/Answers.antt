use Rattle.std.proofs.Common.{ℕ, ◌<◌, List, [], ◌∷◌, All, length, sym, subst}
use Rattle.std.proofs.lemmas.List.Elements.{All-append, All-cons, All-nil}
use Rattle.state_replay.proofs.Lines.{told_below}
use Rattle.live_replan.specs.declared.told.Told.{Told}
use Rattle.live_replan.specs.steps.ToldChanges.{ToldSoFar}
use Rattle.live_replan.proofs.ToldFacts.{all_told, one_told, told_first}
use Rattle.live_replan.proofs.told.told_changes.Goals as goal

pub unreachable-requires : goal.unreachable-requires
unreachable-requires c =
    let so_far = subst (λ (l : List (List ℕ)). ToldSoFar c.args.net.now c.args.journal.now l c.loop-line.told.items) c.in-Some.ensures.some
    c.loop-line.invariant.told in
    let are = so_far c.requires.changes c.requires.tells in
    let next = told_first c.args.net.now c.args.journal.now c.in-Some.line.now c.next_line-in-loop-line.new.self are.rest are.each in
    c.in_default-told_change.ensures next.change next.tells

pub loop-line-preserved : goal.loop-line-preserved
loop-line-preserved c =
    let so_far = subst (λ (l : List (List ℕ)). ToldSoFar c.args.net.now c.args.journal.now l c.loop-line.told.items) c.in-Some.ensures.some
    c.loop-line.invariant.told in
    record {
      told =
          subst (λ (l : List Told). ToldSoFar c.args.net.now c.args.journal.now c.next_line-in-loop-line.new.self l) (sym c.in_ok-push.ensures.items)
          (one_told c.args.net.now c.args.journal.now c.in-Some.line.now c.next_line-in-loop-line.new.self c.loop-line.told.items
          c.in-Some-told_change.change c.routers.ensures.network.ascending so_far c.in-Some-told_change.ensures);
      below =
          subst (All (λ (t : Told). t.router < length c.args.net.now)) (sym c.in_ok-push.ensures.items)
          (All-append (λ (t : Told). t.router < length c.args.net.now) c.loop-line.told.items (c.in-Some-told_change.change ∷ []) c.loop-line.invariant.below
          (All-cons (λ (t : Told). t.router < length c.args.net.now) c.in-Some-told_change.change []
          (told_below c.args.net.now c.in-Some.line.now c.in-Some-told_change.change.router c.in-Some-told_change.change.half c.in-Some-told_change.ensures)
          (All-nil (λ (t : Told). t.router < length c.args.net.now))));
    }

pub returns-clause-told : goal.returns-clause-told
returns-clause-told c =
    all_told c.args.net.now c.args.journal.now c.loop-line.told.items
    (subst (λ (l : List (List ℕ)). ToldSoFar c.args.net.now c.args.journal.now l c.loop-line.told.items) c.in_default.ensures.none
    c.loop-line.invariant.told)
