-- The commands over two networks decide one thing of them, which has a text.
use Rattle.std.proofs.Common.{◌≡◌, ◌≢◌, ℕ, List, [], ◌∷◌, ap, length, refl}
use Rattle.std.specs.Prelude.{slice_index_or}
use Rattle.net_model.specs.Network.{Network}
use Rattle.net_model.specs.Refusals.{NamesAscend}
use Rattle.ospf_pair.proofs.PairRefusalLaws.{MakePair-refused, RefusesPair-unique}
use Rattle.ospf_pair.specs.NetworkPairs.{NetworkPair, network_pair}
use Rattle.ospf_pair.specs.PairRefusals.{RefusesPair}
use Rattle.ospf_pair.specs.declared.refusal.PairRefusal.TheVariants.{OutOfMemory}
use Rattle.migrate_words.specs.Asked.{IsInRange}
use Rattle.migrate_words.specs.Usages.{usage_of}
use Rattle.migrate_words.specs.declared.command.Command.{Command}
use Rattle.migrate_words.specs.declared.command.CommandKind.{CommandKind}
use Rattle.migrate_words.specs.declared.command.CommandKind.TheVariants.{Pair, PairCheck, PairRefute, PairScripts}
use Rattle.ospf_pair.specs.declared.refusal.PairRefusal.{PairRefusal}
use Rattle.step_scripts.proofs.WaveFileLaws.{no_fault, one_faulty_line, one_wave_list}
use Rattle.ospf_pair.specs.PairScripts.{pair_script_text}
use Rattle.migration_report.specs.Outcomes.{IsTellable}
use Rattle.migration_report.specs.declared.decision.Decision.{Decision}
use Rattle.migration_report.specs.declared.decision.Decision.TheVariants.{BadOrder, BadPair, PairScript}
use Rattle.migrate_cli.specs.PairDecision.{IsPairDecision, IsScriptOfPair}
use Rattle.migrate_cli.specs.PairDecision.IsPairDecision.{no_pair, of_pair}
use Rattle.migrate_cli.specs.PairDecision.IsScriptOfPair.{faulty_waves, of_waves}
use Rattle.migrate_cli.specs.CommandFiles.{OverNetworks, given_texts, own_files}
use Rattle.migrate_cli.specs.Decisions.{IsDecision, input_of}
use Rattle.migrate_cli.specs.Reading.{AreShort, NamedText, named_text, named_texts}
use Rattle.migrate_cli.proofs.CommandFacts.{one_own}

-- where one thing is decided of a pair, one is decided of two networks
pub one_pair_decision : (nets : NetworkPair) (P : Decision → Type 0) {d e : Decision} → (P d → P e → d ≡ e) → IsPairDecision nets P d →
    IsPairDecision nets P e → d ≡ e
one_pair_decision nets P one (no_pair first refuses told) (no_pair second refuse tell) =
    ap (λ (r : PairRefusal). BadPair r) (RefusesPair-unique nets first second told tell refuses refuse)
one_pair_decision nets P one (no_pair refusal refuses told) (of_pair _ make _) = absurd (told (MakePair-refused nets refusal make refuses))
one_pair_decision nets P one (of_pair _ make _) (no_pair refusal refuses told) = absurd (told (MakePair-refused nets refusal make refuses))
one_pair_decision nets P one (of_pair _ _ is) (of_pair _ _ its) = one is its

pub pair_tellable : (nets : NetworkPair) (net : Network) (P : Decision → Type 0) {d : Decision} → (P d → IsTellable net d) →
    IsPairDecision nets P d → IsTellable net d
pair_tellable nets net P tells (no_pair _ _ told) = told
pair_tellable nets net P tells (of_pair _ _ is) = tells is

module _ (nets : NetworkPair) (order : NamedText) where
  pub one_script : {d e : Decision} → NamesAscend nets.old → IsScriptOfPair nets order d → IsScriptOfPair nets order e → d ≡ e
  one_script ascending (faulty_waves n k one) (faulty_waves m j other) =
      let same = one_faulty_line nets.old order.text n m k j one other in λ i. BadOrder order.file (same.0 i) (same.1 i)
  one_script ascending (faulty_waves n k least) (of_waves version ranks names) =
      absurd (no_fault nets.old order.text version ranks n k ascending names least.faulty)
  one_script ascending (of_waves version ranks names) (faulty_waves n k least) =
      absurd (no_fault nets.old order.text version ranks n k ascending names least.faulty)
  one_script ascending (of_waves version one names) (of_waves its other again) =
      let same = one_wave_list nets.old order.text version its one other ascending names again in
      λ i. PairScript (pair_script_text (same.0 i) nets (same.1 i))

  pub script_tellable : (net : Network) {d : Decision} → IsScriptOfPair nets order d → IsTellable net d
  script_tellable net (faulty_waves _ _ _) = tt
  script_tellable net (of_waves _ _ _) = tt

-- that two networks make no pair is what a command over two networks decides
pub bad_pair : (command : Command) (own configs : List (List ℕ)) (old new : Network) (refusal : PairRefusal) → OverNetworks command.kind →
    IsInRange command → AreShort (own_files command) own → RefusesPair refusal (network_pair old new) → refusal ≢ OutOfMemory →
    IsDecision command.kind (input_of command (given_texts own configs) old (new ∷ [])) (BadPair refusal)
bad_pair command own configs old new refusal over range short refuses told = by_kind command.kind refl over
  where
    one : NamedText
    one = named_text (slice_index_or command.own 0 []) (slice_index_or own 0 [])

    own_is : (kind : CommandKind) → command.kind ≡ kind → length (usage_of kind).own ≡ 1 → named_texts command.own own ≡ one ∷ []
    own_is kind is single = one_own command own kind is range short (slice_index_or command.own 0 []) (slice_index_or own 0 []) single refl refl

    by_kind : (kind : CommandKind) → command.kind ≡ kind → OverNetworks kind →
        IsDecision kind (input_of command (given_texts own configs) old (new ∷ [])) (BadPair refusal)
    by_kind Pair is over = (new, refl, no_pair refusal refuses told)
    by_kind PairScripts is over = (new, refl, one, own_is PairScripts is refl, no_pair refusal refuses told)
    by_kind PairCheck is over = (new, refl, one, own_is PairCheck is refl, no_pair refusal refuses told)
    by_kind PairRefute is over = (new, refl, one, own_is PairRefute is refl, no_pair refusal refuses told)
    by_kind _ is over = absurd over
