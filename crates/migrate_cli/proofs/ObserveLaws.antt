-- `observe` comes to one outcome.
use Rattle.std.proofs.lemmas.Grind.{common_steps}
use Rattle.std.proofs.Common.{◌≡◌, ◌∙◌, ℕ, List, sym, ap, subst, arith}
use Rattle.std.proofs.lemmas.Option.{same_Some}
use Rattle.net_model.specs.Configuration.{Configuration}
use Rattle.net_model.specs.Network.{Network, HasConfiguration}
use Rattle.net_model.specs.OffStarts.{IsLowestOffStart}
use Rattle.net_model.specs.Refusals.{NamesAscend, Refuses}
use Rattle.net_model.specs.declared.refusal.NetRefusal.{NetRefusal}
use Rattle.net_model.proofs.RefusalLaws.{Refuses-unique}
use Rattle.step_scripts.proofs.WaveFileLaws.{no_fault, one_faulty_line, one_wave_list}
use Rattle.observed_night.specs.ObservedTexts.{IsObserved}
use Rattle.observed_night.specs.declared.night.Observed.{Observed}
use Rattle.observed_night.proofs.ObservedFacts.{one_observed}
use Rattle.migration_report.specs.Outcomes.{HasOutcomeText, IsTellable}
use Rattle.migration_report.specs.declared.decision.Decision.{Decision}
use Rattle.migration_report.specs.declared.decision.Decision.TheVariants.{BadOrder}
use Rattle.migration_report.specs.declared.outcome.Outcome.{Outcome}
use Rattle.migration_report.specs.declared.outcome.Outcome.TheVariants.{Refused, Decided}
use Rattle.migration_report.specs.declared.refusal.Refusal.TheVariants.{Config, Network as NoNetwork, OffStart}
use Rattle.migrate_cli.specs.Configurations.{GiveNetwork, IsAtStart}
use Rattle.migrate_cli.specs.ObserveDecision.{ConfigTexts, IsNightOutcome, IsObserveDecision, NightTexts, RefusesTexts, told_decision}
use Rattle.migrate_cli.specs.ObserveDecision.IsNightOutcome.{refused_before, off_before, refused_now, night_decided}
use Rattle.migrate_cli.specs.ObserveDecision.IsObserveDecision.{faulty_waves, of_waves}
use Rattle.migrate_cli.specs.ObserveDecision.RefusesTexts.{faulty_line, no_net}
use Rattle.migrate_cli.specs.Reading.{NamedText}
use Rattle.migrate_cli.proofs.GroupLaws.{one_network, refused_or_given}
use Rattle.migrate_cli.proofs.TextLaws.{none_refused, one_reading, one_refused}

-- ---- texts of configurations ----

one_refusal_of : {files : ConfigTexts} {one other : Outcome} → RefusesTexts files one → RefusesTexts files other → one ≡ other
one_refusal_of (faulty_line _ _ _ first) (faulty_line _ _ _ second) =
    let same = one_refused first second in λ i. Refused (Config (same.0 i) (same.1 i) (same.2 i))
one_refusal_of (faulty_line _ _ _ first) (no_net all _ read _ _) = absurd (none_refused first all read)
one_refusal_of (no_net all _ read _ _) (faulty_line _ _ _ first) = absurd (none_refused first all read)
one_refusal_of {files = files} (no_net all one read refuses told) (no_net others its reads refuse tell) =
    ap (λ (r : NetRefusal). Refused (NoNetwork r))
    (Refuses-unique others one its told tell (subst (Refuses one) (one_reading files.texts all others read reads) refuses) refuse)

pub given_not_refused : {files : ConfigTexts} {outcome : Outcome} (net : Network) → GiveNetwork files.texts net → RefusesTexts files outcome → ⊥
given_not_refused net gives (faulty_line _ _ _ first) = none_refused first gives.configs gives.read
given_not_refused {files = files} net gives (no_net all refusal read refuses told) = refused_or_given files.texts net all refusal gives read refuses told

-- ---- what is decided of two networks ----

told_once : (one other : Observed) → one ≡ other → told_decision one ≡ told_decision other
told_once one other same = ap told_decision same

pub one_observe_decision : (before now : Network) (order : NamedText) {d e : Decision} → NamesAscend before → NamesAscend now →
    IsObserveDecision before now order d → IsObserveDecision before now order e → d ≡ e
one_observe_decision before now order up now_up (faulty_waves n k one) (faulty_waves m j other) =
    let same = one_faulty_line before order.text n m k j one other in λ i. BadOrder order.file (same.0 i) (same.1 i)
one_observe_decision before now order up now_up (faulty_waves n k least) (of_waves version ranks _ _ names _ _ _ _) =
    absurd (no_fault before order.text version ranks n k up names least.faulty)
one_observe_decision before now order up now_up (of_waves version ranks _ _ names _ _ _ _) (faulty_waves n k least) =
    absurd (no_fault before order.text version ranks n k up names least.faulty)
one_observe_decision before now order up now_up (of_waves version ranks one _ names _ _ is told) (of_waves its others other _ again _ _ are tells) =
    let same : ranks ≡ others = (one_wave_list before order.text version its ranks others up names again).1 in
    told ∙ told_once one other (one_observed before now ranks one other up now_up names.are.each is
    (subst (λ (r : List ℕ). IsObserved before now r other) (sym same) are)) ∙ sym tells

-- ---- the outcome ----

one_off_start : (net other : Network) (u v : ℕ) (c d : Configuration) → net ≡ other → IsLowestOffStart net u → HasConfiguration net u c →
    IsLowestOffStart other v → HasConfiguration other v d → c ≡ d
one_off_start net other u v c d same lowest has least its =
    let low : IsLowestOffStart net v = subst (λ (n : Network). IsLowestOffStart n v) (sym same) least in
    let at : HasConfiguration net v d = subst (λ (n : Network). HasConfiguration n v d) (sym same) its in
    let router : u ≡ v = omega (arith, lowest.least v low.holds, low.least u lowest.holds) in
    same_Some c d (sym has ∙ subst (λ n. HasConfiguration net n d) (sym router) at)

pub off_or_at : (texts : NightTexts) (net other : Network) (u : ℕ) → GiveNetwork texts.before.texts net → GiveNetwork texts.before.texts other →
    IsLowestOffStart net u → IsAtStart other → ⊥
off_or_at texts net other u gives give lowest start =
    start u (subst (λ (n : Network). IsLowestOffStart n u) (one_network texts.before.texts net other gives give) lowest).holds

pub one_night : (texts : NightTexts) {one other : Outcome} → IsNightOutcome texts one → IsNightOutcome texts other → one ≡ other
one_night texts (refused_before _ a) (refused_before _ b) = one_refusal_of a b
one_night texts (refused_before _ a) (off_before net _ _ gives _ _) = absurd (given_not_refused net gives a)
one_night texts (refused_before _ a) (refused_now net _ gives _ _) = absurd (given_not_refused net gives a)
one_night texts (refused_before _ a) (night_decided net _ _ gives _ _ _) = absurd (given_not_refused net gives a)
one_night texts (off_before net _ _ gives _ _) (refused_before _ b) = absurd (given_not_refused net gives b)
one_night texts (off_before net u c gives lowest has) (off_before other v d give least its) =
    ap (λ (config : Configuration). Refused (OffStart config.name))
    (one_off_start net other u v c d (one_network texts.before.texts net other gives give) lowest has least its)
one_night texts (off_before net u _ gives lowest _) (refused_now other _ give start _) = absurd (off_or_at texts net other u gives give lowest start)
one_night texts (off_before net u _ gives lowest _) (night_decided other _ _ give start _ _) = absurd (off_or_at texts net other u gives give lowest start)
one_night texts (refused_now net _ gives _ _) (refused_before _ b) = absurd (given_not_refused net gives b)
one_night texts (refused_now other _ give start _) (off_before net u _ gives lowest _) = absurd (off_or_at texts net other u gives give lowest start)
one_night texts (refused_now _ _ _ _ a) (refused_now _ _ _ _ b) = one_refusal_of a b
one_night texts (refused_now _ _ _ _ a) (night_decided _ now _ _ _ gives _) = absurd (given_not_refused now gives a)
one_night texts (night_decided net _ _ gives _ _ _) (refused_before _ b) = absurd (given_not_refused net gives b)
one_night texts (night_decided other _ _ give start _ _) (off_before net u _ gives lowest _) = absurd (off_or_at texts net other u gives give lowest start)
one_night texts (night_decided _ now _ _ _ gives _) (refused_now _ _ _ _ b) = absurd (given_not_refused now gives b)
one_night texts (night_decided net now one gives _ gave is) (night_decided other its again give _ given are) =
    let same : net ≡ other = one_network texts.before.texts net other gives give in
    let later : now ≡ its = one_network texts.current.texts now its gave given in
    let decision : one ≡ again = one_observe_decision net now texts.order gives.make.network.ascending gave.make.network.ascending is
    (subst (λ (n : Network). IsObserveDecision n now texts.order again) (sym same)
    (subst (λ (n : Network). IsObserveDecision other n texts.order again) (sym later) are)) in
    λ i. Decided (same i) (decision i)

-- ---- its text ----

refusal_told : {files : ConfigTexts} {outcome : Outcome} → RefusesTexts files outcome → HasOutcomeText outcome
refusal_told (faulty_line _ _ _ _) = tt
refusal_told (no_net _ _ _ _ told) = told

told_tellable : (net : Network) (observed : Observed) → IsTellable net (told_decision observed)
told_tellable net observed = grind (arith, common_steps)

observe_tellable : {before now : Network} {order : NamedText} {d : Decision} → IsObserveDecision before now order d → IsTellable before d
observe_tellable (faulty_waves _ _ _) = tt
observe_tellable {before = before} (of_waves _ _ observed _ _ _ _ _ told) = subst (IsTellable before) (sym told) (told_tellable before observed)

pub night_has_text : {texts : NightTexts} {outcome : Outcome} → IsNightOutcome texts outcome → HasOutcomeText outcome
night_has_text (refused_before _ is) = refusal_told is
night_has_text (off_before _ _ _ _ _ _) = tt
night_has_text (refused_now _ _ _ _ is) = refusal_told is
night_has_text (night_decided _ _ _ _ _ _ is) = observe_tellable is
