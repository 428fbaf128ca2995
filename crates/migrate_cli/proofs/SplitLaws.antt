-- `split` decides one thing of an order file, a number of routers and a network, and what it writes is safe.
use Rattle.std.proofs.Common.{◌≡◌, ◌<◌, ◌∙◌, ◌++◌, ℕ, Contains, List, ap, arith, length, refl, subst, sym}
use Rattle.igp_theory.specs.LoopLaws.{BeginsOld}
use Rattle.net_model.specs.Refusals.{IsNetwork}
use Rattle.igp_theory.specs.Migrations.{Migration, ospf_to_isis}
use Rattle.igp_theory.specs.States.{IsSeamless}
use Rattle.igp_theory.specs.Waves.{AreSeamlessWaves}
use Rattle.igp_theory.proofs.FlatOrders.{flat_is_seamless}
use Rattle.net_model.specs.Network.{Network}
use Rattle.net_model.specs.Refusals.{NamesAscend}
use Rattle.net_model.specs.RouterNames.{names_of}
use Rattle.order_core.specs.Orders.{AreDistinct}
use Rattle.order_core.specs.Rankings.{IsRanking, flat_of, rank_of}
use Rattle.split_waves.proofs.CutWaves.{cuts_refine}
use Rattle.split_waves.proofs.OneRouterWaves.{order_of_waves}
use Rattle.split_waves.proofs.Refinements.{refinement_is_seamless}
use Rattle.split_waves.specs.Cuts.{AreSmallerWaves, cut_waves}
use Rattle.step_scripts.proofs.TextFacts.{lists_read_back}
use Rattle.step_scripts.proofs.WaveFileLaws.{no_fault, one_wave_list}
use Rattle.step_scripts.proofs.NamedWaves.{ranking}
use Rattle.step_scripts.proofs.WaveLists.{seat_of}
use Rattle.step_scripts.specs.WaveFiles.{NamesWaves, wave_at}
use Rattle.step_scripts.specs.WavesTexts.{wave_list_text, waves_in}
use Rattle.step_scripts.specs.declared.version.Version.{Version}
use Rattle.step_scripts.specs.declared.version.Version.TheVariants.{One, Two}
use Rattle.migration_report.specs.Outcomes.{IsTellable, decision_status}
use Rattle.migration_report.specs.declared.decision.Decision.{Decision}
use Rattle.migration_report.specs.declared.decision.Decision.TheVariants.{Split}
use Rattle.migrate_cli.specs.CheckDecision.{IsCheckOver}
use Rattle.migrate_cli.specs.CheckDecision.IsOrderDecision.{safe, unsafe as unsafe_order}
use Rattle.migrate_cli.specs.CheckDecision.IsWavesDecision.{safe_waves, unsafe_wave}
use Rattle.migrate_cli.specs.CheckDecision.IsCheckDecision.{by_routers}
use Rattle.migrate_cli.specs.CheckDecision.IsCheckOver.{faulty_order, of_order, of_waves}
use Rattle.migrate_cli.specs.Reading.{NamedText}
use Rattle.migrate_cli.specs.SplitDecision.{IsCutOf, IsCutText, IsSplitDecision, IsYes}
use Rattle.migrate_cli.specs.SplitDecision.IsCutText.{cut_text}
use Rattle.migrate_cli.specs.SplitDecision.IsSplitDecision.{unsafe, cut}
use Rattle.migrate_cli.specs.SplitPromise.{DecidesSplit, IsSafelySplit}
use Rattle.migrate_cli.specs.SplitPromise.DecidesSplit.{is_split, is_unsafe}
use Rattle.migrate_cli.proofs.ChangesLaws.{names_no_changes}
use Rattle.migrate_cli.proofs.CheckLaws.{check_tellable, one_check_decision}

-- ---- what an order file names ----

module _ (net : Network) (text : List ℕ) (version : Version) (ranks : List ℕ) (n : NamesWaves net text version ranks) where
  -- the seat of each router is the wave of its rank
  seat : (u : ℕ) → u < length net → (rank_of ranks u < length n.are.routers) × Contains (wave_at n.are.routers (rank_of ranks u)) u
  seat u lt =
      let its = seat_of n.are.routers u ((n.are.once.all u).1 lt) in
      let rank : rank_of ranks u ≡ its.0 = n.are.seats its.0 u its.1.among in (
        omega (arith, rank, its.1.within),
        subst (λ w. Contains (wave_at n.are.routers w) u) (sym rank) its.1.among,
      )

  -- it is a ranking
  pub named_ranking : IsRanking (length net) ranks
  named_ranking =
      subst (λ m. IsRanking m ranks) n.are.each
      (ranking net version (n.lines ++ n.ending) n.are.routers (record {
        lines = n.lines;
        ending = n.ending;
        parts = refl;
        read = record { waves = n.waves; each = n.each; named = n.are.named; once = n.are.once.once };
        ends = n.ends;
      }) ranks (record { each = n.are.each; is_in = λ u lt. record { within = (seat u lt).0; among = (seat u lt).1 } }))

-- ---- what `check` says of a wave list ----

-- an order file that names a wave list, where every router begins in Old
module _ (move : Migration) (begins : BeginsOld move) (order : NamedText) (version : Version) (ranks : List ℕ) (ascending : NamesAscend move.net)
    (names : NamesWaves move.net order.text version ranks) where
  same_waves : {its : Version} {other : List ℕ} → NamesWaves move.net order.text its other → other ≡ ranks
  same_waves {its} {other} again = (one_wave_list move.net order.text its version other ranks ascending again names).1

  -- `check` says yes where it is seamless
  pub seamless_is_yes : {d : Decision} → AreSeamlessWaves move ranks → IsCheckOver move order d → IsYes d
  seamless_is_yes seamless (faulty_order n k least) = absurd (no_fault move.net order.text version ranks n k ascending names least.faulty)
  seamless_is_yes seamless (of_order _ _ _ (safe _)) = tt
  seamless_is_yes seamless (of_order other _ again (unsafe_order _ _ none _)) =
      absurd (none (flat_is_seamless move other begins (subst (AreSeamlessWaves move) (sym (same_waves again)) seamless)))
  seamless_is_yes seamless (of_waves _ _ _ (safe_waves _)) = tt
  seamless_is_yes seamless (of_waves other _ again (unsafe_wave _ _ none _)) =
      absurd (none (subst (AreSeamlessWaves move) (sym (same_waves again)) seamless))

  -- and there alone
  pub yes_is_seamless : {d : Decision} → (version ≡ One → AreDistinct ranks) → IsCheckOver move order d → IsYes d →
      AreSeamlessWaves move ranks
  yes_is_seamless ones (faulty_order _ _ _) says = absurd says
  yes_is_seamless ones (of_order other _ again (safe seamless)) says =
      let its : One ≡ version = (one_wave_list move.net order.text One version other ranks ascending again names).0 in
      order_of_waves move ranks begins (named_ranking move.net order.text version ranks names) (ones (sym its))
      (subst (λ (some : List ℕ). IsSeamless move (flat_of some)) (same_waves again) seamless)
  yes_is_seamless ones (of_order _ _ _ (unsafe_order _ _ _ _)) says = absurd says
  yes_is_seamless ones (of_waves other _ again (safe_waves seamless)) says = subst (AreSeamlessWaves move) (same_waves again) seamless
  yes_is_seamless ones (of_waves _ _ _ (unsafe_wave _ _ _ _)) says = absurd says

-- what is no yes is no
no_decides : {move : Migration} {order : NamedText} {d : Decision} {version : Version} {ranks : List ℕ} → BeginsOld move → NamesAscend move.net →
    NamesWaves move.net order.text version ranks → IsCheckOver move order d → ¬ IsYes d → DecidesSplit move ranks (decision_status d)
no_decides {move} {order} {version = version} {ranks = ranks} begins ascending names (faulty_order n k least) not =
    absurd (no_fault move.net order.text version ranks n k ascending names least.faulty)
no_decides begins ascending names (of_order _ _ _ (safe _)) not = absurd (not tt)
no_decides {move} {order} {version = version} {ranks = ranks} begins ascending names (of_order other d again (unsafe_order state fault none first)) not =
    is_unsafe (λ seamless. not (seamless_is_yes move begins order version ranks ascending names seamless
    (of_order other d again (unsafe_order state fault none first))))
no_decides begins ascending names (of_waves _ _ _ (safe_waves _)) not = absurd (not tt)
no_decides {move} {order} {version = version} {ranks = ranks} begins ascending names (of_waves other d again (unsafe_wave wave fault none first)) not =
    is_unsafe (λ seamless. not (seamless_is_yes move begins order version ranks ascending names seamless
    (of_waves other d again (unsafe_wave wave fault none first))))

-- ---- one thing is decided ----

module _ (order : NamedText) (most : ℕ) (net : Network) where
  pub one_split_decision : {d e : Decision} → NamesAscend net → IsSplitDecision order most net d → IsSplitDecision order most net e → d ≡ e
  one_split_decision ascending (unsafe _ one _) (unsafe _ other _) = one_check_decision (ospf_to_isis net) order ascending one other
  one_split_decision ascending (unsafe _ one not) (cut version ranks _ names seamless _) =
      absurd (not (seamless_is_yes (ospf_to_isis net) (λ u. refl) order version ranks ascending names seamless one))
  one_split_decision ascending (cut version ranks _ names seamless _) (unsafe _ other not) =
      absurd (not (seamless_is_yes (ospf_to_isis net) (λ u. refl) order version ranks ascending names seamless other))
  one_split_decision ascending (cut version one _ names _ is) (cut its other _ again _ too) =
      let same : one ≡ other = (one_wave_list net order.text version its one other ascending names again).1 in
      ap (λ (waves : List (List ℕ)). Split (wave_list_text (names_of net) waves)) (is.cuts ∙ ap (cut_waves most) same ∙ sym too.cuts)

  pub split_tellable : {d : Decision} → IsSplitDecision order most net d → IsTellable net d
  split_tellable (unsafe _ is _) = check_tellable is
  split_tellable (cut _ _ _ _ _ _) = tt

  -- which is a yes where the wave list is seamless, and a no where it isn't
  pub split_decides : {d : Decision} {version : Version} {ranks : List ℕ} → NamesAscend net → NamesWaves net order.text version ranks →
      IsSplitDecision order most net d → DecidesSplit (ospf_to_isis net) ranks (decision_status d)
  split_decides ascending names (unsafe _ is not) = no_decides (λ u. refl) ascending names is not
  split_decides {version = version} {ranks = ranks} ascending names (cut its other _ again seamless _) =
      is_split (subst (AreSeamlessWaves (ospf_to_isis net)) (one_wave_list net order.text its version other ranks ascending again names).1 seamless)

-- ---- what is written is safe ----

pub safely_split : (net : Network) (most : ℕ) (ranks split : List ℕ) → 0 < most → AreSeamlessWaves (ospf_to_isis net) ranks →
    IsCutOf net most ranks split → IsSafelySplit net most ranks (wave_list_text (names_of net) (waves_in split))
safely_split net most ranks split some seamless is =
    let smaller : AreSmallerWaves most ranks split = cuts_refine.lists (length net) most ranks split some seamless.waves is.ranking is.cuts in
    let reads = lists_read_back net split is.network is.ranking in
    record {
      split = split;
      reads_back = reads;
      cuts = is.cuts;
      smaller = smaller;
      safe = λ file. by_routers _ (names_no_changes net (wave_list_text (names_of net) (waves_in split)) Two split reads)
          (of_waves split _ reads (safe_waves (refinement_is_seamless (ospf_to_isis net) ranks split seamless is.ranking smaller.refines)));
    }

-- the text of the waves that a seamless list is cut into is what is decided of its order file
pub cut_decides : (net : Network) (order : NamedText) (most : ℕ) (version : Version) (ranks : List ℕ) {d : Decision} →
    NamesWaves net order.text version ranks → (IsNetwork net → AreSeamlessWaves (ospf_to_isis net) ranks) → IsCutText net most ranks d →
    IsSplitDecision order most net d
cut_decides net order most version ranks names seamless (cut_text split of) = cut version ranks split names (seamless of.network) of
