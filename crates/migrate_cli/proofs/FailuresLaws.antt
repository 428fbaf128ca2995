-- `failures` decides one thing of an order file and a network, which has a text.
use Rattle.std.proofs.Common.{◌≡◌, ℕ, List, All, refl, subst, sym}
use Rattle.net_addr.specs.Addresses.{Block}
use Rattle.net_model.specs.Network.{Network}
use Rattle.net_model.specs.Refusals.{NamesAscend}
use Rattle.igp_theory.specs.Migrations.{Migration, ospf_to_isis}
use Rattle.igp_theory.specs.Phases.{all_new}
use Rattle.igp_theory.specs.States.{state_of}
use Rattle.igp_theory.specs.Timetables.{IsStateOfWave, router_times}
use Rattle.order_core.specs.Rankings.{flat_of}
use Rattle.step_scripts.proofs.WaveFileLaws.{one_wave_list}
use Rattle.step_scripts.specs.declared.version.Version.{Version}
use Rattle.failed_links.proofs.DownFacts.{KeepsRouters-all}
use Rattle.failure_texts.specs.LinkVerdicts.{IsToldVerdict}
use Rattle.failure_texts.specs.declared.verdict.FailedLink.{FailedLink}
use Rattle.failure_texts.specs.declared.verdict.LinkVerdict.{LinkVerdict}
use Rattle.migration_report.specs.Outcomes.{IsTellable}
use Rattle.migration_report.specs.declared.decision.Decision.{Decision}
use Rattle.std.proofs.Common.{length}
use Rattle.migrate_cli.specs.FailuresDecision.{AreFailedLinks, IsFailuresDecision, IsLinkVerdict, IsToldFailures, IsVerdictOver}
use Rattle.migrate_cli.specs.FailuresDecision.IsFailuresDecision.{no_yes, of_links}
use Rattle.migrate_cli.specs.FailuresDecision.IsLinkVerdict.{refused, judged}
use Rattle.migrate_cli.specs.FailuresDecision.IsToldFailures.{none_breaks, some_breaks}
use Rattle.migrate_cli.specs.FailuresDecision.IsVerdictOver.{old_end, new_end, order_kept, order_broken, waves_kept, waves_broken}
use Rattle.migrate_cli.specs.Reading.{NamedText}
use Rattle.migrate_cli.specs.SplitDecision.{IsYes}
use Rattle.migrate_cli.proofs.CheckLaws.{check_tellable, one_check_decision}
use Rattle.migrate_cli.proofs.FailedLinks.{one_failed_links}
use Rattle.migrate_cli.proofs.FaultFacts.{fault_below, fault_over_below}

-- ---- what is told of links ----

-- it names routers of the network
told_over : {move : Migration} {ranks : List ℕ} {version : Version} {v : LinkVerdict} → IsVerdictOver move ranks version v →
    IsToldVerdict (length move.net) v
told_over {move} (old_end fault is) = fault_below move move.start fault is
told_over {move} (new_end fault is) = fault_below move all_new fault is.last
told_over (order_kept _ _ _) = tt
told_over {move} {ranks} (order_broken state fault _ first) = fault_below move (state_of (flat_of ranks) state) fault first.here
told_over (waves_kept _ _) = tt
told_over {move} {ranks} (waves_broken wave fault _ first) =
    fault_over_below move (IsStateOfWave (length move.net) (router_times move.start ranks) wave) fault first.here

told_verdict : {net : Network} {version : Version} {ranks : List ℕ} {p : Block} {v : LinkVerdict} → IsLinkVerdict net version ranks p v →
    IsToldVerdict (length net) v
told_verdict (refused _ is) = is.told
told_verdict {net = net} {p = p} (judged v _ is) = subst (λ n. IsToldVerdict n v) (KeepsRouters-all p net).0 (told_over is)

pub all_told : {net : Network} {version : Version} {ranks : List ℕ} {failed : List FailedLink} → AreFailedLinks net version ranks failed →
    All (λ (x : FailedLink). IsToldVerdict (length net) x.verdict) failed
all_told are = λ k d within. told_verdict (are.verdicts k d within)

-- ---- one decision ----

one_told : {net : Network} {checked : Decision} {failed : List FailedLink} {d e : Decision} → IsToldFailures net checked failed d →
    IsToldFailures net checked failed e → d ≡ e
one_told (none_breaks _) (none_breaks _) = refl
one_told (none_breaks none) (some_breaks some) = absurd (none some)
one_told (some_breaks some) (none_breaks none) = absurd (none some)
one_told (some_breaks _) (some_breaks _) = refl

module _ (order : NamedText) (net : Network) where
  pub one_failures_decision : {d e : Decision} → NamesAscend net → IsFailuresDecision order net d → IsFailuresDecision order net e → d ≡ e
  one_failures_decision ascending (no_yes _ checks _) (no_yes _ again _) = one_check_decision (ospf_to_isis net) order ascending checks again
  one_failures_decision ascending (no_yes _ checks never) (of_links _ _ _ _ _ _ _ again says _ _) =
      absurd (never (subst IsYes (one_check_decision (ospf_to_isis net) order ascending again checks) says))
  one_failures_decision ascending (of_links _ _ _ _ _ _ _ again says _ _) (no_yes _ checks never) =
      absurd (never (subst IsYes (one_check_decision (ospf_to_isis net) order ascending again checks) says))
  one_failures_decision ascending (of_links version ranks one d failed _ names checks _ are told)
      (of_links its others two e more _ again rechecks _ too tells) =
      let lists = one_wave_list net order.text version its ranks others ascending names again in
      let list : ranks ≡ others = lists.1 in
      let kind : version ≡ its = lists.0 in
      let checked : one ≡ two = one_check_decision (ospf_to_isis net) order ascending checks rechecks in
      let moved : AreFailedLinks net version ranks more =
      subst (λ (v : Version). AreFailedLinks net v ranks more) (sym kind)
      (subst (λ (r : List ℕ). AreFailedLinks net its r more) (sym list) too) in
      let links : failed ≡ more = one_failed_links net version ranks failed more are moved in
      one_told told
      (subst (λ (c : Decision). IsToldFailures net c failed e) (sym checked)
      (subst (λ (f : List FailedLink). IsToldFailures net two f e) (sym links) tells))

  pub failures_tellable : {d : Decision} → IsFailuresDecision order net d → IsTellable net d
  failures_tellable (no_yes _ checks _) = check_tellable {order = order} checks
  failures_tellable (of_links _ _ _ _ _ _ _ _ _ _ (none_breaks _)) = tt
  failures_tellable (of_links _ _ _ _ _ _ _ _ _ _ (some_breaks _)) = tt
