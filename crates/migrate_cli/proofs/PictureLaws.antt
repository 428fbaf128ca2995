-- `picture` decides one thing of an order file and a network, which has a text.
use Rattle.std.proofs.Common.{◌≡◌, ℕ, List, ap, sym, subst}
use Rattle.net_model.specs.Network.{Network}
use Rattle.net_model.specs.Refusals.{IsNetwork, NamesAscend}
use Rattle.igp_theory.specs.Migrations.{ospf_to_isis}
use Rattle.step_scripts.proofs.WaveFileLaws.{no_fault, one_faulty_line, one_wave_list}
use Rattle.step_scripts.specs.WaveFiles.{NamesWaves}
use Rattle.step_scripts.specs.declared.version.Version.{Version}
use Rattle.drawn_network.proofs.OnePicture.{one_picture}
use Rattle.migration_report.specs.Outcomes.{IsTellable}
use Rattle.migration_report.specs.declared.decision.Decision.{Decision}
use Rattle.migration_report.specs.declared.decision.Decision.TheVariants.{BadOrder, ExplainedSafe, ExplainedUnsafe, Safe, SafeWaves, Unsafe, UnsafeWave}
use Rattle.migrate_cli.specs.CheckDecision.{IsCheckOver}
use Rattle.migrate_cli.specs.CheckDecision.IsCheckOver.{faulty_order, of_order, of_waves}
use Rattle.migrate_cli.specs.CheckDecision.IsOrderDecision.{safe, unsafe}
use Rattle.migrate_cli.specs.CheckDecision.IsWavesDecision.{safe_waves, unsafe_wave}
use Rattle.migrate_cli.specs.PictureDecision.{Draws, IsDrawn, IsListVerdict, IsPictureDecision, drawn_fault}
use Rattle.migrate_cli.specs.PictureDecision.IsDrawn.{drawn_safe, drawn_safe_waves, drawn_unsafe, drawn_unsafe_wave}
use Rattle.migrate_cli.specs.PictureDecision.IsPictureDecision.{drawn_list, faulty_file}
use Rattle.migrate_cli.specs.Reading.{NamedText, named_text}
use Rattle.migrate_cli.specs.SplitDecision.{IsYes}
use Rattle.migrate_cli.proofs.CheckLaws.{check_tellable, one_check_decision}

-- of a file that names a wave list `check` says yes or no
pub verdict_of : (order : NamedText) (net : Network) {version : Version} {ranks : List ℕ} {d : Decision} → NamesAscend net →
    NamesWaves net order.text version ranks → IsCheckOver (ospf_to_isis net) order d → IsListVerdict net d
verdict_of order net {version} {ranks} ascending names (faulty_order n k least) =
    absurd (no_fault net order.text version ranks n k ascending names least.faulty)
verdict_of order net ascending names (of_order _ _ _ (safe _)) = tt
verdict_of order net ascending names (of_order one d again (unsafe state fault never first)) =
    check_tellable {order = order} (of_order one d again (unsafe state fault never first))
verdict_of order net ascending names (of_waves _ _ _ (safe_waves _)) = tt
verdict_of order net ascending names (of_waves one d again (unsafe_wave wave fault never first)) =
    check_tellable {order = order} (of_waves one d again (unsafe_wave wave fault never first))

-- and it says so of the text under any name
pub renamed : (order : NamedText) (net : Network) (name : List ℕ) {version : Version} {ranks : List ℕ} {d : Decision} → NamesAscend net →
    NamesWaves net order.text version ranks → IsCheckOver (ospf_to_isis net) order d →
    IsCheckOver (ospf_to_isis net) (named_text name order.text) d
renamed order net name {version} {ranks} ascending names (faulty_order n k least) =
    absurd (no_fault net order.text version ranks n k ascending names least.faulty)
renamed order net name ascending names (of_order ranks d again is) = of_order ranks d again is
renamed order net name ascending names (of_waves ranks d again is) = of_waves ranks d again is

-- what is drawn where `check` says yes, and where it says no
pub drawn_yes : (net : Network) (ranks : List ℕ) (d : Decision) (text : List ℕ) → IsYes d → Draws net ranks d text →
    IsDrawn net ranks d (ExplainedSafe text)
drawn_yes net ranks Safe text says is = drawn_safe text is
drawn_yes net ranks (SafeWaves waves) text says is = drawn_safe_waves waves text is
drawn_yes net ranks _ text says is = absurd says

pub drawn_no : (net : Network) (ranks : List ℕ) (d : Decision) (text : List ℕ) → IsListVerdict net d → ¬ IsYes d →
    Draws net ranks d text → IsDrawn net ranks d (ExplainedUnsafe text)
drawn_no net ranks Safe text verdict never is = absurd (never tt)
drawn_no net ranks (SafeWaves waves) text verdict never is = absurd (never tt)
drawn_no net ranks (Unsafe state fault) text verdict never is = drawn_unsafe state fault text is
drawn_no net ranks (UnsafeWave wave fault) text verdict never is = drawn_unsafe_wave wave fault text is
drawn_no net ranks _ text verdict never is = absurd verdict

module _ (net : Network) (network : IsNetwork net) (ranks : List ℕ) where
  one_text : (checked : Decision) (text other : List ℕ) → Draws net ranks checked text → Draws net ranks checked other → text ≡ other
  one_text checked text other one two = one_picture net ranks _ (drawn_fault checked) text other network one two

  -- a decision of `check` is drawn in one way
  one_drawn : (checked : Decision) {d e : Decision} → IsDrawn net ranks checked d → IsDrawn net ranks checked e → d ≡ e
  one_drawn checked (drawn_safe s one) (drawn_safe t two) = ap (λ (text : List ℕ). ExplainedSafe text) (one_text checked s t one two)
  one_drawn checked (drawn_safe_waves _ s one) (drawn_safe_waves _ t two) =
      ap (λ (text : List ℕ). ExplainedSafe text) (one_text checked s t one two)
  one_drawn checked (drawn_unsafe _ _ s one) (drawn_unsafe _ _ t two) =
      ap (λ (text : List ℕ). ExplainedUnsafe text) (one_text checked s t one two)
  one_drawn checked (drawn_unsafe_wave _ _ s one) (drawn_unsafe_wave _ _ t two) =
      ap (λ (text : List ℕ). ExplainedUnsafe text) (one_text checked s t one two)

module _ (order : NamedText) (net : Network) where
  pub one_picture_decision : {d e : Decision} → NamesAscend net → IsPictureDecision order net d → IsPictureDecision order net e → d ≡ e
  one_picture_decision ascending (faulty_file n k one) (faulty_file m j other) =
      let same = one_faulty_line net order.text n m k j one other in λ i. BadOrder order.file (same.0 i) (same.1 i)
  one_picture_decision ascending (faulty_file n k least) (drawn_list version ranks _ _ _ names _ _) =
      absurd (no_fault net order.text version ranks n k ascending names least.faulty)
  one_picture_decision ascending (drawn_list version ranks _ _ _ names _ _) (faulty_file n k least) =
      absurd (no_fault net order.text version ranks n k ascending names least.faulty)
  one_picture_decision ascending (drawn_list version ranks one d network names checks is) (drawn_list its others two e _ again rechecks too) =
      let lists : ranks ≡ others = (one_wave_list net order.text version its ranks others ascending names again).1 in
      let checked : one ≡ two = one_check_decision (ospf_to_isis net) order ascending checks rechecks in
      one_drawn net network ranks one is
      (subst (λ (c : Decision). IsDrawn net ranks c e) (sym checked) (subst (λ (r : List ℕ). IsDrawn net r two e) (sym lists) too))

  pub picture_tellable : {d : Decision} → IsPictureDecision order net d → IsTellable net d
  picture_tellable (faulty_file _ _ _) = tt
  picture_tellable (drawn_list _ _ _ _ _ _ _ (drawn_safe _ _)) = tt
  picture_tellable (drawn_list _ _ _ _ _ _ _ (drawn_safe_waves _ _ _)) = tt
  picture_tellable (drawn_list _ _ _ _ _ _ _ (drawn_unsafe _ _ _ _)) = tt
  picture_tellable (drawn_list _ _ _ _ _ _ _ (drawn_unsafe_wave _ _ _ _)) = tt
