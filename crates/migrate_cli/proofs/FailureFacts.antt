-- What is found of a list without a link, and what `failures` comes to.
use Rattle.std.proofs.lemmas.Grind.{common_steps}
use Rattle.std.proofs.Common.{◌≡◌, ◌≢◌, ◌+◌, ◌<◌, ◌≤◌, ◌∙◌, ◌++◌, ℕ, List, [], ◌∷◌, All, Option, Some, Result, Ok, Err, IfOk, OnOk}
use Rattle.std.proofs.Common.{ap, ap₂, arith, get_or, length, map, replicate, subst, sym, take}
use Rattle.std.proofs.lemmas.List.{get_or-replicate, map-append, take_more}
use Rattle.std.proofs.lemmas.List.Elements.{All-append, All-cons}
use Rattle.std.specs.Prelude.{slice_index_or}
use Rattle.std.specs.declared.alloc.AllocError.{AllocError}
use Rattle.net_addr.specs.Addresses.{Block}
use Rattle.net_model.specs.Configuration.{Configuration}
use Rattle.net_model.specs.Network.{HasConfiguration, Network}
use Rattle.net_model.specs.OffStarts.{IsLowestOffStart}
use Rattle.net_model.specs.Refusals.{Refuses}
use Rattle.net_model.specs.declared.refusal.NetRefusal.{NetRefusal}
use Rattle.net_model.specs.declared.refusal.NetRefusal.TheVariants.{OutOfMemory}
use Rattle.igp_theory.specs.Loops.{Fault, IsFault}
use Rattle.igp_theory.specs.Migrations.{Migration, migration}
use Rattle.igp_theory.specs.Ospf.{OspfEntry}
use Rattle.igp_theory.specs.Phases.{state_in}
use Rattle.igp_theory.specs.States.{IsSound}
use Rattle.igp_theory.specs.declared.phase.Phase.{Phase}
use Rattle.igp_theory.specs.declared.phase.Phase.TheVariants.{Old}
use Rattle.igp_theory.proofs.AlikeStates.{AreAlike, sound_alike}
use Rattle.igp_theory.proofs.SameTables.{fault_over, first_fault_over, seamless_over, sound_over}
use Rattle.igp_theory.proofs.WaveFaultLaws.{seamless_waves_over, times_fault_over}
use Rattle.plan_theory.proofs.AlikeFaults.{fault_alike}
use Rattle.plan_theory.specs.declared.planned.EndFault.{EndFault}
use Rattle.rib_mix.specs.Mixture.{Mixture, migration_of}
use Rattle.ospf_routes.specs.RouteTables.{table_at}
use Rattle.ospf_routes.specs.declared.source.OspfRoutes.{OspfRoutes}
use Rattle.step_scripts.specs.declared.version.Version.{Version}
use Rattle.failure_texts.specs.declared.verdict.FailedLink.{FailedLink}
use Rattle.failed_links.specs.ShutDown.{shut_down}
use Rattle.failure_texts.specs.declared.verdict.LinkVerdict.{LinkVerdict}
use Rattle.failure_texts.specs.declared.verdict.LinkVerdict.TheVariants.{Refused as RefusedLink}
use Rattle.migrate_words.specs.declared.command.Command.{Command}
use Rattle.migrate_words.specs.declared.command.CommandKind.{CommandKind}
use Rattle.migrate_words.specs.declared.command.CommandKind.TheVariants.{Failures}
use Rattle.migration_report.specs.declared.decision.Decision.{Decision}
use Rattle.migration_report.specs.declared.outcome.Outcome.{Outcome}
use Rattle.migration_report.specs.declared.outcome.Outcome.TheVariants.{Refused}
use Rattle.migration_report.specs.declared.refusal.Refusal.TheVariants.{OffStart}
use Rattle.migrate_cli.specs.declared.tables.NewRoutes.{NewRoutes}
use Rattle.migrate_cli.specs.CommandFiles.{AsksNetworks, GivenTexts, NeedsStart, OverNetworks, groups_of, own_files}
use Rattle.migrate_cli.specs.Configurations.{GiveNetworks}
use Rattle.migrate_cli.specs.Decisions.{IsDecision, input_of}
use Rattle.migrate_cli.specs.FailuresDecision.{IsLinkVerdict, IsVerdictOver}
use Rattle.migrate_cli.specs.FailuresDecision.IsLinkVerdict.{refused}
use Rattle.migrate_cli.specs.FailuresDecision.IsVerdictOver.{old_end, new_end, order_kept, order_broken, waves_kept, waves_broken}
use Rattle.migrate_cli.specs.Outcomes.{IsOutcome}
use Rattle.migrate_cli.specs.Outcomes.IsOutcome.{decided, off_start}
use Rattle.migrate_cli.specs.PictureDecision.{IsListVerdict}
use Rattle.migrate_cli.specs.Reading.{AreShort, NamedText, named_texts}
use Rattle.migrate_cli.specs.SplitDecision.{IsYes}
use Rattle.migrate_cli.specs.steps.FilesRead.{ReadsFiles}
use Rattle.migrate_cli.specs.steps.FirstUnsound.{IsEndFault}
use Rattle.migrate_cli.specs.steps.StandingNetworks.{IsStandingOutcome}
use Rattle.migrate_cli.specs.steps.StandingNetworks.IsStandingOutcome.{astray, decides}
use Rattle.migrate_cli.specs.steps.Tables.{MixesTables, NetworkMove, move_of, new_entries, new_table}
use Rattle.migrate_cli.proofs.CommandFacts.{place_short}
use Rattle.migrate_cli.proofs.StopFacts.{element}

-- a yes of `check` has a line
pub yes_has_line : (net : Network) (checked : Decision) → IsYes checked → IsListVerdict net checked
yes_has_line net checked says = grind (arith, common_steps)

-- what a list comes to over the tables before and after a migration, it comes to in it
module _ (of : NetworkMove) (m : Mixture OspfRoutes NewRoutes) (mixes : MixesTables of m) where
  abbrev moved : Network → Migration
  moved n = migration n (OspfEntry of.net) (new_entries of.net of.redesign)

  retabled : {ranks : List ℕ} {version : Version} {v : LinkVerdict} → IsVerdictOver (migration_of table_at new_table m) ranks version v →
      IsVerdictOver (moved m.net) ranks version v
  retabled (old_end fault is) = old_end fault (fault_over mixes.same is)
  retabled (new_end fault is) = new_end fault (record { first = sound_over mixes.same is.first; last = fault_over mixes.same is.last })
  retabled (order_kept ends seamless also) =
      order_kept (record { first = sound_over mixes.same ends.first; last = sound_over mixes.same ends.last }) (seamless_over mixes.same seamless)
      (seamless_waves_over mixes.same also)
  retabled (order_broken state fault ends first) =
      order_broken state fault (record { first = sound_over mixes.same ends.first; last = sound_over mixes.same ends.last })
      (first_fault_over mixes.same first)
  retabled (waves_kept ends seamless) =
      waves_kept (record { first = sound_over mixes.same ends.first; last = sound_over mixes.same ends.last }) (seamless_waves_over mixes.same seamless)
  retabled (waves_broken wave fault ends first) =
      waves_broken wave fault (record { first = sound_over mixes.same ends.first; last = sound_over mixes.same ends.last })
      (times_fault_over mixes.same first)

  pub verdict_of_tables : (ranks : List ℕ) (version : Version) (v : LinkVerdict) → IsVerdictOver (migration_of table_at new_table m) ranks version v →
      IsVerdictOver (move_of of) ranks version v
  verdict_of_tables ranks version v is = subst (λ (n : Network). IsVerdictOver (moved n) ranks version v) mixes.net_is (retabled is)

-- what `failures` comes to on the network of its configurations, the call comes to
pub standing_outcome : (command : Command) (texts : GivenTexts) (order : NamedText) (net : Network) {outcome : Outcome} → command.kind ≡ Failures →
    named_texts command.own texts.own ≡ order ∷ [] → GiveNetworks (groups_of command.kind texts.configs) (net ∷ []) →
    IsStandingOutcome order net outcome → IsOutcome command texts outcome
standing_outcome command texts order net kind own gives (astray router config lowest has) =
    off_start net [] router config gives (subst NeedsStart (sym kind) tt) lowest has
standing_outcome command texts order net kind own gives (decides decision start is) =
    decided net [] decision gives (λ _. start)
    (subst (λ (k : CommandKind). IsDecision k (input_of command texts net []) decision) (sym kind) (order, own, is))

-- a router of it isn't where a migration starts
pub standing_off : (order : NamedText) (net : Network) (router : ℕ) (r : Result Outcome AllocError) → IsLowestOffStart net router →
    IfOk r (λ outcome. (config : Configuration) → HasConfiguration net router config → outcome ≡ Refused (OffStart config.name)) →
    IfOk r (IsStandingOutcome order net)
standing_off order net router (Ok outcome) lowest so =
    let off = lowest.holds in
    subst (IsStandingOutcome order net) (sym (so off.config off.router)) (astray router off.config lowest off.router)
standing_off order net router (Err e) lowest so = tt

-- `failures` reads files, of one network
module _ (command : Command) (is : command.kind ≡ Failures) where
  pub reads_files : ReadsFiles command.kind
  reads_files = subst ReadsFiles (sym is) tt

  pub asks_networks : AsksNetworks command.kind
  asks_networks = subst AsksNetworks (sym is) tt

  pub one_network_alone : OverNetworks command.kind → ⊥
  one_network_alone over = subst OverNetworks is over

-- the text of its order file is short enough
pub first_short : (command : Command) (own : List (List ℕ)) (text : List ℕ) → AreShort (own_files command) own → 0 < length own →
    text ≡ slice_index_or own 0 [] → length text ≤ 16777216
first_short command own text short here is = place_short command own 0 text short here (is ∙ element own 0 [] text here)

-- ---- ends ----

-- so many phases that are all one are the state in which every router is in it
module _ (move : Migration) (phase : Phase) (phases : List Phase) (n : ℕ) (many : n ≡ length move.net) (are : phases ≡ replicate n phase) where
  alike_end : AreAlike (length move.net) (state_in phases) (λ _. phase)
  alike_end u within =
      subst (λ (xs : List Phase). state_in xs u ≡ phase) (sym are) (get_or-replicate n u phase Old (omega (arith, many)))

  pub sound_end : IsSound move (state_in phases) → IsSound move (λ _. phase)
  sound_end sound = sound_alike alike_end sound

  pub faulty_end : (fault : Fault) → IsFault move (state_in phases) fault → IsFault move (λ _. phase) fault
  faulty_end fault is = fault_alike alike_end is

-- where an end has no fault it is sound
pub end_sound : (move : Migration) (phase : Phase) (found : Option EndFault) → ((fault : EndFault) → found ≡ Some fault → ⊥) →
    IsEndFault move phase found → IsSound move (λ _. phase)
end_sound move phase found never is = grind (arith, common_steps)

-- ---- one link more ----

module _ (net : Network) (version : Version) (ranks : List ℕ) (failed more : List FailedLink) (x : FailedLink) (more_is : more ≡ failed ++ x ∷ []) where
  abbrev link_of : FailedLink → Block
  link_of f = f.link

  abbrev HasVerdict : FailedLink → Type 0
  HasVerdict f = IsLinkVerdict net version ranks f.link f.verdict

  pub links_more : (links : List Block) (i : ℕ) (p : Block) → x.link ≡ p → p ≡ get_or links i p → i < length links →
      map link_of failed ≡ take i links → map link_of more ≡ take (i + 1) links
  links_more links i p link_is at within before =
      ap (map link_of) more_is ∙ map-append link_of failed (x ∷ []) ∙ ap₂ (λ front last. front ++ last ∷ []) before (link_is ∙ at)
      ∙ sym (take_more links i p within)

  pub verdicts_more : All HasVerdict failed → IsLinkVerdict net version ranks x.link x.verdict → All HasVerdict more
  verdicts_more before is =
      subst (All HasVerdict) (sym more_is)
      (All-append HasVerdict failed (x ∷ []) before (All-cons HasVerdict x [] is (λ k d within. absurd (omega arith))))

-- without a link there is no network, and this is why
pub told_refused : (net : Network) (version : Version) (ranks : List ℕ) (p : Block) (refusal : NetRefusal) (r : Result LinkVerdict AllocError) →
    OnOk r (refusal ≢ OutOfMemory) → IfOk r (λ verdict. verdict ≡ RefusedLink refusal) → Refuses refusal (shut_down p net) →
    IfOk r (IsLinkVerdict net version ranks p)
told_refused net version ranks p refusal (Ok verdict) told is refuses =
    subst (IsLinkVerdict net version ranks p) (sym is) (refused refusal (record { refuses = refuses; told = told }))
told_refused net version ranks p refusal (Err e) told is refuses = tt
