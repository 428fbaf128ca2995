-- Further lines that are no wave: a chain leads on, and anything else is off the form.
use Rattle.std.proofs.Common.{◌≡◌, ℕ, ◌+◌, ◌*◌, true, false, Option, Some, None, MatchOption, List, [], ◌∷◌, ◌++◌, length, get_or, Contains}
use Rattle.std.proofs.Common.{refl, sym, ap, subst, ◌∙◌, ⊎_elim, arith, append-nil}
use Rattle.std.specs.Prelude.{replicate}
use Rattle.std.proofs.lemmas.Bool.{cases_lt}
use Rattle.std.proofs.lemmas.List.{get_or-replicate, get_or_past, length-append, length-replicate}
use Rattle.std.proofs.lemmas.List.Elements.{filter_map-append}
use Rattle.net_model.specs.Network.{Network}
use Rattle.net_model.proofs.Members.{Contains-none}
use Rattle.step_scripts.specs.WaveLines.{waves_on, wave_on, chains_on, chain_on}
use Rattle.step_scripts.specs.WaveFiles.{all_in, wave_at, AreOfEach}
use Rattle.step_scripts.specs.declared.version.Version.TheVariants.{Two}
use Rattle.step_scripts.proofs.WaveLineFacts.{chain_no_wave}
use Rattle.change_orders.specs.ChangeWords.{NamesItem}
use Rattle.change_orders.specs.TwoFaults.{IsChainLineOf, IsOffForm, IsTwoFaultBehind, IsWaveOf, stood_on, two_entry}
use Rattle.change_orders.specs.TwoFaults.IsOffForm.{says_nothing, behind_chain, wrong_chain, unordered}
use Rattle.change_orders.specs.declared.kind.TwoKind.{TwoKind}
use Rattle.change_orders.specs.declared.kind.TwoKind.TheVariants.{Form, NotInNetwork, Twice, Missing, Early}
use Rattle.change_orders.specs.steps.Standing.{HaveLedTo, IsInOneWave, IsLowestTwoFault, TwoStanding, StandsIn}
use Rattle.change_orders.proofs.TakenWaves.{among_all, faultless_more, kind_some}

-- a line off the form has no lower kind
pub off_form : (net : Network) (lines : List (List ℕ)) (line : List ℕ) → IsOffForm net (two_entry lines line) →
    IsLowestTwoFault net (two_entry lines line) Form
off_form net lines line fault = record { fault = fault; lowest = λ its f. kind_some its }

abbrev none_of : Option ℕ
none_of = None

-- in a list of nothing nothing is found
all_none : (n i : ℕ) → get_or (replicate n none_of) i None ≡ none_of
all_none n i =
    ⊎_elim (λ l. get_or-replicate n i none_of None l) (λ past. get_or_past (replicate n none_of) i None (omega (arith, past, length-replicate n none_of)))
    (cases_lt i n)

-- nothing was read
pub start_leads : (net : Network) (n : ℕ) → n ≡ length net →
    HaveLedTo net [] (record { ranks = replicate (2 * n) None; waves = 0; chained = false })
start_leads net n same = record {
  each = length-replicate (2 * n) None ∙ ap (λ k. 2 * k) same;
  count = refl;
  places = λ word i named. subst (λ o. MatchOption o (Contains [] word → ⊥) (IsInOneWave [] word)) (sym (all_none (2 * n) i))
      (λ c. Contains-none word c);
  known = λ word c. absurd (Contains-none word c);
  used = λ w l. absurd (omega (arith, l));
  in_turn = λ u w l has. absurd (let none = all_none (2 * n) (2 * u + 1) in cc);
  chained = λ t. absurd cc;
  unchained = λ f. refl;
  faultless = λ e after kind parts f. absurd (omega (arith, ap length parts, length-append e.before (e.line ∷ after)));
}

module _ (net : Network) (lines : List (List ℕ)) (s : TwoStanding) (led : HaveLedTo net lines s) where
  -- a word stands in a wave where it names an item of this wave
  pub stands_from : (word : List ℕ) (w : ℕ) → Contains (wave_at (waves_on Two lines) w) word → StandsIn net s.ranks word w
  stands_from word w c = by_rank (get_or s.ranks its.0 None) refl (led.places word its.0 its.1)
    where
      its : (i : ℕ) × NamesItem net word i
      its = led.known word (among_all (waves_on Two lines) w word c)

      by_rank : (o : Option ℕ) → get_or s.ranks its.0 None ≡ o →
          MatchOption o (Contains (stood_on lines) word → ⊥) (IsInOneWave (waves_on Two lines) word) → StandsIn net s.ranks word w
      by_rank None has at = absurd (at (among_all (waves_on Two lines) w word c))
      by_rank (Some v) has at = record { item = its.0; names = its.1; rank = has ∙ ap Some (sym (at.only w c)) }

  pub stands_in_wave : (word : List ℕ) (w : ℕ) → StandsIn net s.ranks word w → Contains (wave_at (waves_on Two lines) w) word
  stands_in_wave word w h =
      let at = subst (λ o. MatchOption o (Contains (stood_on lines) word → ⊥) (IsInOneWave (waves_on Two lines) word)) h.rank
      (led.places word h.item h.names) in
      at.among

  module _ (line : List ℕ) (words : List (List ℕ)) (is : IsChainLineOf line words) (unchained : s.chained ≡ false) where
    no_wave_here : (others : List (List ℕ)) → IsWaveOf line others → ⊥
    no_wave_here others o = let none = chain_no_wave Two line words is.says in let some = o.says in cc

    same_waves : waves_on Two (lines ++ line ∷ []) ≡ waves_on Two lines
    same_waves =
        filter_map-append (wave_on Two) lines (line ∷ [])
        ∙ ap (λ l. waves_on Two lines ++ l)
        (let none = chain_no_wave Two line words is.says in let one : waves_on Two (line ∷ []) ≡ [] = rw none refl in one)
        ∙ append-nil (waves_on Two lines)

    more_chains : chains_on Two (lines ++ line ∷ []) ≡ [] → ⊥
    more_chains none =
        let parts = sym (filter_map-append (chain_on Two) lines (line ∷ [])) ∙ none in
        let one : chains_on Two (line ∷ []) ≡ words ∷ [] = rw is.says refl in
        omega (arith, ap length parts, ap length one, length-append (chains_on Two lines) (chains_on Two (line ∷ [])))

    module _ (each : AreOfEach (waves_on Two lines) words) where
      fits : IsOffForm net (two_entry lines line) → ⊥
      fits (says_nothing no_wave no_chain) = no_chain words is
      fits (behind_chain some) = some (led.unchained unchained)
      fits (wrong_chain others chain wrong) =
          let same : words ≡ others = let one = chain.says in let two = is.says in cc in
          wrong (subst (AreOfEach (waves_on Two lines)) same each)
      fits (unordered others wave breaks) = no_wave_here others wave

      none_here : (kind : TwoKind) → IsTwoFaultBehind net (two_entry lines line) kind → ⊥
      none_here Form f = fits f
      none_here NotInNetwork f = no_wave_here f.words f.wave
      none_here Twice f = no_wave_here f.words f.wave
      none_here Missing f = f
      none_here Early f = no_wave_here f.words f.wave

      pub chain_leads : HaveLedTo net (lines ++ line ∷ []) (record { ranks = s.ranks; waves = s.waves; chained = true })
      chain_leads = record {
        each = led.each;
        count = ap length same_waves ∙ led.count;
        places = λ word i n. subst (λ ws. MatchOption (get_or s.ranks i None) (Contains (all_in ws) word → ⊥) (IsInOneWave ws word)) (sym same_waves)
            (led.places word i n);
        known = λ word c. led.known word (subst (λ ws. Contains (all_in ws) word) same_waves c);
        used = led.used;
        in_turn = led.in_turn;
        chained = λ t. more_chains;
        unchained = λ f. absurd cc;
        faultless = faultless_more net lines line led.faultless none_here;
      }
