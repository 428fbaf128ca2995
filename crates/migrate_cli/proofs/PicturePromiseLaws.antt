-- What a call of `picture` promises.
use Rattle.std.proofs.Common.{◌≡◌, ◌≢◌, [], ℕ, List, refl, subst, sym}
use Rattle.net_model.specs.Network.{Network}
use Rattle.net_model.specs.Refusals.{NamesAscend}
use Rattle.step_scripts.proofs.WaveFileLaws.{no_fault}
use Rattle.step_scripts.specs.WaveFiles.{NamesWaves}
use Rattle.step_scripts.specs.declared.version.Version.{Version}
use Rattle.store_edge.specs.Sink.{AddsBytes}
use Rattle.migrate_words.specs.Asked.{Asks}
use Rattle.migration_report.specs.Outcomes.{decision_status, decision_text, status_of, outcome_text}
use Rattle.migration_report.specs.declared.decision.Decision.{Decision}
use Rattle.migration_report.specs.declared.outcome.Outcome.{Outcome}
use Rattle.migration_report.specs.declared.status.Status.TheVariants.{ReadFault}
use Rattle.migrate_cli.specs.Answers.{IsAnswer}
use Rattle.migrate_cli.specs.Calls.{Call, Course}
use Rattle.migrate_cli.specs.CheckDecision.IsCheckDecision.{by_routers}
use Rattle.migrate_cli.specs.Completeness.{Decides, IsYesOrNo}
use Rattle.migrate_cli.specs.Completeness.Decides.{yes, no}
use Rattle.migrate_cli.specs.PictureDecision.{Draws, IsDrawn, IsPictureDecision}
use Rattle.migrate_cli.specs.PictureDecision.IsDrawn.{drawn_safe, drawn_safe_waves, drawn_unsafe, drawn_unsafe_wave}
use Rattle.migrate_cli.specs.PictureDecision.IsPictureDecision.{drawn_list, faulty_file}
use Rattle.migrate_cli.specs.PicturePromise.{AcceptsPicture, HasDrawn, picture_of}
use Rattle.migrate_cli.specs.Reading.{NamedText}
use Rattle.migrate_cli.proofs.ChangesLaws.{names_no_changes}
use Rattle.migrate_cli.proofs.CompletenessLaws.{ends_decided, said_of}
use Rattle.migrate_cli.proofs.DecidedLaws.{HasDecided, IsNoRefusal, answer_decided}
use Rattle.migrate_cli.proofs.PictureLaws.{renamed}
use Rattle.migrate_cli.proofs.PreparePromiseLaws.{own_is}

-- a picture ends as `check` does, and its text is the picture
drawn_status : {net : Network} {ranks : List ℕ} {checked d : Decision} → IsDrawn net ranks checked d → decision_status d ≡ decision_status checked
drawn_status (drawn_safe _ _) = refl
drawn_status (drawn_safe_waves _ _ _) = refl
drawn_status (drawn_unsafe _ _ _ _) = refl
drawn_status (drawn_unsafe_wave _ _ _ _) = refl

drawn_text_of : {net : Network} {ranks : List ℕ} {checked d : Decision} → IsDrawn net ranks checked d →
    Draws net ranks checked (decision_text net d)
drawn_text_of (drawn_safe _ is) = is
drawn_text_of (drawn_safe_waves _ _ is) = is
drawn_text_of (drawn_unsafe _ _ _ is) = is
drawn_text_of (drawn_unsafe_wave _ _ _ is) = is

-- ---- a call ----

-- no refusal ends as a yes or a no
verdict_no_refusal : IsNoRefusal IsYesOrNo
verdict_no_refusal = record { words = λ q. q; read = λ q. q; limit = λ q. q; refused = λ q. q }

module _ (call : Call) (file : List ℕ) (configs : List (List ℕ)) (outside : Course) (asks : Asks call.words (picture_of file configs)) where
  by_decision : {outcome : Outcome} (it : HasDecided call (picture_of file configs) outcome) (d : Decision) → IsPictureDecision it.is.0 it.net d →
      AddsBytes outside.before.written outside.after.written (decision_text it.net d) → IsYesOrNo (decision_status d) →
      HasDrawn call file configs outside (decision_status d)
  by_decision it d (faulty_file _ _ _) writes of = absurd of
  by_decision it d (drawn_list version ranks checked _ _ names checks is) writes of = record {
    texts = it.texts;
    read = it.read;
    within = it.within;
    net = it.net;
    gives = it.gives.0;
    start = it.start tt;
    text = it.is.0.text;
    text_is = own_is file it.texts it.is.0 it.is.1;
    version = version;
    ranks = ranks;
    names = names;
    checked = checked;
    checks = λ name. by_routers checked (names_no_changes it.net it.is.0.text version ranks names)
        (renamed it.is.0 it.net name it.gives.0.make.network.ascending names checks);
    status_is = drawn_status is;
    written = decision_text it.net d;
    adds = writes;
    draws = drawn_text_of is;
  }

  pub has_drawn : {asked : List (List ℕ)} {outcome : Outcome} → IsAnswer call asked outcome →
      AddsBytes outside.before.written outside.after.written (outcome_text outcome) → IsYesOrNo (status_of outcome) →
      HasDrawn call file configs outside (status_of outcome)
  has_drawn is adds of =
      let it = answer_decided IsYesOrNo verdict_no_refusal call (picture_of file configs) tt asks is of in
      subst (λ (o : Outcome). HasDrawn call file configs outside (status_of o)) (sym it.outcome_is)
      (by_decision it it.decision it.is.2
      (subst (λ (o : Outcome). AddsBytes outside.before.written outside.after.written (outcome_text o)) it.outcome_is adds)
      (subst (λ (o : Outcome). IsYesOrNo (status_of o)) it.outcome_is of))

-- ---- it decides ----

drawn_decides : {net : Network} {ranks : List ℕ} {checked d : Decision} → IsDrawn net ranks checked d → Decides (decision_status d)
drawn_decides (drawn_safe _ _) = yes
drawn_decides (drawn_safe_waves _ _ _) = yes
drawn_decides (drawn_unsafe _ _ _ _) = no
drawn_decides (drawn_unsafe_wave _ _ _ _) = no

picture_decided : (order : NamedText) (net : Network) {version : Version} {ranks : List ℕ} {d : Decision} → NamesAscend net →
    NamesWaves net order.text version ranks → IsPictureDecision order net d → Decides (decision_status d)
picture_decided order net {version} {ranks} ascending names (faulty_file n k least) =
    absurd (no_fault net order.text version ranks n k ascending names least.faulty)
picture_decided order net ascending names (drawn_list _ _ _ _ _ _ _ is) = drawn_decides is

pub picture_decides : (call : Call) → (it : AcceptsPicture call) → (asked : List (List ℕ)) (outcome : Outcome) → status_of outcome ≢ ReadFault →
    IsAnswer call asked outcome → Decides (status_of outcome)
picture_decides call it =
    ends_decided call (picture_of it.file it.configs) it.texts it.net [] it.accepted Decides
    (λ decision is. picture_decided is.0 it.net it.accepted.gives.0.make.network.ascending
    (said_of it.file (λ t. NamesWaves it.net t it.version it.ranks) it.text_is is.1 it.names) is.2)
