use Rattle.std.proofs.Common.{◌∙◌, List, ℕ, ap, refl, subst, sym}
use Rattle.net_model.specs.Configuration.{Configuration}
use Rattle.order_core.specs.Least.{IsLowest}
use Rattle.observed_night.specs.ObservedTexts.{IsObserved, astray, astray_text, journal}
use Rattle.observed_night.specs.ShownPhases.{IsAstray}
use Rattle.observed_night.specs.declared.night.Observed.TheVariants.{Astray, Journal}
use Rattle.observed_night.proofs.night.observe_night.Goals as goal

pub returns-in-Some : goal.returns-in-Some
returns-in-Some c =
    let before = c.args.before.now in
    let now = c.args.now.now in
    let config : Configuration = c.config.result.now in
    let text = c.in_ok-text.ensures ∙ ap astray_text (c.as_slice.ensures ∙ ap (λ (x : Configuration). x.name) c.behind-before.view_is) in
    subst (λ (some : List ℕ). IsObserved before now c.args.waves.now (Astray some)) (sym text)
    (astray c.in-Some.router config.name c.requires.night
    (subst (λ (ranks : List ℕ). IsLowest (IsAstray before now ranks) c.in-Some.router) c.requires.ranks c.in-Some.ensures)
    (record { config = config; router = c.config.ensures.router; name_is = refl }))

pub told_journal-requires-clause-none : goal.told_journal-requires-clause-none
told_journal-requires-clause-none c =
    subst (λ (ranks : List ℕ). (u : ℕ) → IsAstray c.args.before.now c.args.now.now ranks u → ⊥) c.requires.ranks c.in_default.ensures

pub returns : goal.returns
returns c =
    let before = c.args.before.now in
    let now = c.args.now.now in
    let told = c.in_ok-journal.ensures in
    subst (λ (some : List ℕ). IsObserved before now c.args.waves.now (Journal some)) (sym told.text_is)
    (journal told.state c.requires.night
    (subst (λ (ranks : List ℕ). (u : ℕ) → IsAstray before now ranks u → ⊥) c.requires.ranks c.in_default.ensures) told.told)
