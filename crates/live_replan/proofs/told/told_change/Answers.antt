use Rattle.std.proofs.Common.{ℕ, List, Option, MatchOption, sym, subst}
use Rattle.net_model.specs.Lookups.{IsNamed}
use Rattle.igp_theory.specs.Changes.{Change}
use Rattle.state_replay.specs.Halves.{change_of}
use Rattle.state_replay.specs.Journals.{TellsChange}
use Rattle.state_replay.proofs.Lines.{no_name_told}
use Rattle.live_replan.specs.declared.told.Told.{Told}
use Rattle.live_replan.proofs.told.told_change.Goals as goal

pub returns-in_err-router : goal.returns-in_err-router
returns-in_err-router c =
    subst (λ (found : Option Told). MatchOption found ((d : Change) → TellsChange c.args.net.now c.args.line.now d → ⊥)
    (λ told. TellsChange c.args.net.now c.args.line.now (change_of told.router told.half))) (sym c.from_residual-in_err-router.ensures)
    (no_name_told c.args.net.now c.args.line.now
    (subst (λ (name : List ℕ). (u : ℕ) → IsNamed c.args.net.now name u → ⊥) c.split_at.ensures.front c.in_err-router.ensures.number))
