use Rattle.std.proofs.Common.{◌≡◌, ◌∙◌, List, ℕ, ap, subst, sym}
use Rattle.std.proofs.lemmas.Result.{IfOk-weaker}
use Rattle.igp_theory.specs.Phases.{state_in}
use Rattle.igp_theory.specs.declared.phase.Phase.{Phase}
use Rattle.observed_night.specs.ObservedTexts.{state_journal}
use Rattle.observed_night.specs.ShownPhases.{IsAstray}
use Rattle.observed_night.specs.ToldStates.{IsToldState}
use Rattle.observed_night.specs.steps.ToldJournals.{IsToldJournal}
use Rattle.observed_night.proofs.night.told_journal.Goals as goal

pub told_phases-requires-clause-none : goal.told_phases-requires-clause-none
told_phases-requires-clause-none c =
    subst (λ (ranks : List ℕ). (u : ℕ) → IsAstray c.args.before.now c.args.now.now ranks u → ⊥) (sym c.ranks.ensures.ranks) c.requires.none

pub returns : goal.returns
returns c =
    let before = c.args.before.now in
    let now = c.args.now.now in
    let ranks = c.args.waves.now in
    let told : IsToldState before now ranks (state_in c.in_ok-phases.phases.items) =
    subst (λ (some : List ℕ). IsToldState before now some (state_in c.in_ok-phases.phases.items)) c.ranks.ensures.ranks c.in_ok-phases.ensures.told in
    IfOk-weaker c.journal_text.result (λ text. text ≡ state_journal before ranks (state_in c.as_slice.result.now)) (IsToldJournal before now ranks)
    (λ text is. record {
      state = state_in c.in_ok-phases.phases.items;
      told = told;
      text_is = is ∙ ap (λ (some : List Phase). state_journal before ranks (state_in some)) c.as_slice.ensures.value;
    }) c.journal_text.ensures
