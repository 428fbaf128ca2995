-- A further wave: why it is faulty, or what it leads to.
use Rattle.std.proofs.Common.{◌≡◌, ℕ, zero, suc, ◌⊎◌, ◌+◌, ◌*◌, ◌<◌, ◌≤◌, false, Option, Some, None, MatchOption, List, [], ◌∷◌, ◌++◌, length, get_or}
use Rattle.std.proofs.Common.{take, map, All, Any, Contains, refl, sym, ap, subst, ◌∙◌, ⊎_elim, inl, inr, arith, append-nil}
use Rattle.std.specs.List.{AllZip}
use Rattle.std.proofs.lemmas.Bool.{cases_lt}
use Rattle.std.proofs.lemmas.List.{get_or_append_left, get_or_default, get_or_past, length-append}
use Rattle.std.proofs.Math.Seq.{get_or-append_seam}
use Rattle.std.proofs.lemmas.List.Elements.{All-contains, Contains-append_cases, Contains-append_left, Contains-append_right, Contains-get_or, filter_map-append}
use Rattle.std.proofs.lemmas.Slice.Zip.{AllZip-long}
use Rattle.net_addr.proofs.SomeElement.{any_in}
use Rattle.net_model.specs.Lookups.{IsNamed}
use Rattle.net_model.specs.Network.{Network}
use Rattle.net_model.specs.Refusals.{NamesAscend}
use Rattle.net_model.proofs.Members.{Contains-none}
use Rattle.step_scripts.specs.WaveLines.{waves_on, wave_on, chains_on, chain_on}
use Rattle.step_scripts.specs.WaveFiles.{all_in, wave_at}
use Rattle.step_scripts.specs.declared.version.Version.TheVariants.{Two}
use Rattle.step_scripts.proofs.ReadFacts.{all_in-append}
use Rattle.step_scripts.proofs.Splits.{one_split, split_at}
use Rattle.step_scripts.proofs.WaveLineFacts.{wave_no_chain, wave_some}
use Rattle.step_scripts.proofs.Zips.{zip_at, zip_item, zip_partner, zip_take}
use Rattle.change_orders.specs.ChangeWords.{NamesItem, change_word}
use Rattle.change_orders.specs.TwoFaults.{BreakItemOrder, IsChainLineOf, IsOffForm, IsTwoFaultBehind, IsWaveOf, NamesChangeAgain, NamesChangeEarly, NamesNoChange}
use Rattle.change_orders.specs.TwoFaults.{TwoEntry, stood_on, two_entry, two_kind_rank}
use Rattle.change_orders.specs.TwoFaults.IsOffForm.{says_nothing, behind_chain, wrong_chain, unordered}
use Rattle.change_orders.specs.declared.kind.TwoKind.{TwoKind}
use Rattle.change_orders.specs.declared.kind.TwoKind.TheVariants.{Form, NotInNetwork, Twice, Missing, Early}
use Rattle.change_orders.specs.steps.Found.{AreSeated, AscendWhereFound, DescendSomewhere, IsEarlyItem, IsItemFound, IsSeatTaken, LacksSome}
use Rattle.change_orders.specs.steps.Standing.{AreFaultless, HaveLedTo, IsInOneWave, IsLowestTwoFault, TwoStanding}
use Rattle.change_orders.proofs.ItemFacts.{NamesItem-below, NamesItem-unique, NamesItem-word, first_named, second_item, second_of}
use Rattle.change_orders.proofs.FoundItems.{all_named, break_by, in_or_out, no_break, no_change_at, seating}

-- each kind is one of five
pub kind_some : (kind : TwoKind) → 1 ≤ two_kind_rank kind
kind_some kind = grind arith

-- where no line before is faulty and this one isn't, none of all is
pub faultless_more : (net : Network) (lines : List (List ℕ)) (line : List ℕ) → AreFaultless net lines →
    ((kind : TwoKind) → IsTwoFaultBehind net (two_entry lines line) kind → ⊥) → AreFaultless net (lines ++ line ∷ [])
faultless_more net lines line before here e after kind parts f =
    elim (split_at e.before e.line after lines (line ∷ []) parts) [
      | inl among ↦ before e among.0 kind among.1 f
      | inr behind ↦ last behind.0 behind.1
    ]
  where
    last : (front : List (List ℕ)) → e.before ≡ lines ++ front → ⊥
    last [] is =
        let all : e.before ≡ lines = is ∙ append-nil lines in
        let split = one_split e.before e.line after lines line [] (ap length all) (sym parts) in
        let same : e ≡ two_entry lines line = λ i. two_entry (split.0 i) (split.1 i) in
        here kind (subst (λ x. IsTwoFaultBehind net x kind) same f)
    last (x ∷ front) is =
        omega (
          arith,
          ap length parts,
          length-append lines (line ∷ []),
          ap length is,
          length-append lines (x ∷ front),
          length-append e.before (e.line ∷ after),
        )

-- a word that stands in a wave stands among all
pub among_all : (waves : List (List (List ℕ))) (w : ℕ) (word : List ℕ) → Contains (wave_at waves w) word → Contains (all_in waves) word
among_all [] w word c = absurd (Contains-none word c)
among_all (wave ∷ waves) zero word c = Contains-append_left wave (all_in waves) word c
among_all (wave ∷ waves) (suc w) word c = Contains-append_right wave (all_in waves) word (among_all waves w word c)

module _ (net : Network) (network : NamesAscend net) (lines : List (List ℕ)) (line : List ℕ) (words : List (List ℕ)) (is : IsWaveOf line words)
    (s : TwoStanding) (led : HaveLedTo net lines s) (unchained : s.chained ≡ false) where
  abbrev e : TwoEntry
  e = two_entry lines line

  -- what a line says as a wave it says once, and it is no chain
  same_words : (others : List (List ℕ)) → IsWaveOf line others → others ≡ words
  same_words others o = let one = o.says in let two = is.says in cc

  no_chain_here : (others : List (List ℕ)) → IsChainLineOf line others → ⊥
  no_chain_here others o = let none = wave_no_chain Two line words is.says in let some = o.says in cc

  -- where the items are in order the form is right
  in_form : (BreakItemOrder net words → ⊥) → IsOffForm net e → ⊥
  in_form ordered (says_nothing no_wave no_chain) = no_wave words is
  in_form ordered (behind_chain some) = some (led.unchained unchained)
  in_form ordered (wrong_chain others chain wrong) = no_chain_here others chain
  in_form ordered (unordered others wave breaks) = ordered (subst (BreakItemOrder net) (same_words others wave) breaks)

  module _ (found : List (Option ℕ)) (zip : AllZip (IsItemFound net) words found) where
    pub lowest_unordered : DescendSomewhere found → IsLowestTwoFault net e Form
    lowest_unordered d = record { fault = unordered words is (break_by net network words found zip d); lowest = λ its f. kind_some its }

    module _ (ascend : AscendWhereFound found (length found)) where
      formed : IsOffForm net e → ⊥
      formed = in_form (no_break net network words found zip ascend)

      pub lowest_unknown : LacksSome found → IsLowestTwoFault net e NotInNetwork
      lowest_unknown lacks = record { fault = no_change_at net network words found zip e is lacks; lowest = lowest }
        where
          lowest : (its : TwoKind) → IsTwoFaultBehind net e its → 2 ≤ two_kind_rank its
          lowest Form f = absurd (formed f)
          lowest NotInNetwork f = omega arith
          lowest Twice f = omega arith
          lowest Missing f = omega arith
          lowest Early f = omega arith

      module _ (items : List ℕ) (all : found ≡ map (λ (i : ℕ). Some i) items) where
        named : AllZip (NamesItem net) words items
        named = all_named net words items (subst (AllZip (IsItemFound net) words) all zip)

        long : length items ≡ length words
        long = AllZip-long (NamesItem net) words items named

        named_at : (p : ℕ) → p < length words → NamesItem net (get_or words p []) (get_or items p 0)
        named_at p l = zip_at (NamesItem net) words items p [] 0 named l

        known : NamesNoChange net e → ⊥
        known f =
            let its = zip_partner (NamesItem net) words items f.word 0 named (subst (λ l. Contains l f.word) (same_words f.words f.wave) f.among) in
            f.unknown its.1 its.4

        -- the word of one of the items is among the words
        word_among : (i : ℕ) (word : List ℕ) → NamesItem net word i → Contains items i → Contains words word
        word_among i word n c =
            let its = zip_item (NamesItem net) words items i [] named c in
            subst (Contains words) (NamesItem-word net its.1 word i its.4 n) (its.0, its.2, its.3)

        -- and the item of one of the words is among the items
        item_among : (i : ℕ) (word : List ℕ) → NamesItem net word i → Contains words word → Contains items i
        item_among i word n c =
            let its = zip_partner (NamesItem net) words items word 0 named c in
            subst (Contains items) (NamesItem-unique net word its.1 i network its.4 n) (its.0, its.2, its.3)

        -- the items that were seated at a place
        stood_by : (p : ℕ) → p < length words → (w : ℕ) → get_or s.ranks (get_or items p 0) None ≡ Some w → Contains (stood_on lines) (get_or words p [])
        stood_by p l w has =
            let place = led.places (get_or words p []) (get_or items p 0) (named_at p l) in
            let at = subst (λ o. MatchOption o (Contains (stood_on lines) (get_or words p []) → ⊥) (IsInOneWave (waves_on Two lines) (get_or words p [])))
            has place in
            among_all (waves_on Two lines) w (get_or words p []) at.among

        pub lowest_again : IsSeatTaken items s.ranks → IsLowestTwoFault net e Twice
        lowest_again taken = record {
          fault = record {
            words = words;
            wave = is;
            place = taken.place;
            within = within;
            stood = ⊎_elim
                (λ had. Contains-append_left (stood_on lines) (take taken.place words) (get_or words taken.place []) (stood_by taken.place within had.0 had.1))
                (λ earlier. Contains-append_right (stood_on lines) (take taken.place words) (get_or words taken.place []) (before_here earlier))
                taken.taken;
          };
          lowest = lowest;
        }
          where
            within : taken.place < length words
            within = omega (arith, long, taken.within)

            before_here : Contains (take taken.place items) (get_or items taken.place 0) → Contains (take taken.place words) (get_or words taken.place [])
            before_here c =
                let its = zip_item (NamesItem net) (take taken.place words) (take taken.place items) (get_or items taken.place 0) []
                (zip_take (NamesItem net) taken.place words items named) c in
                subst (Contains (take taken.place words)) (NamesItem-word net its.1 (get_or words taken.place []) (get_or items taken.place 0) its.4
                (named_at taken.place within)) (its.0, its.2, its.3)

            lowest : (its : TwoKind) → IsTwoFaultBehind net e its → 3 ≤ two_kind_rank its
            lowest Form f = absurd (formed f)
            lowest NotInNetwork f = absurd (known f)
            lowest Twice f = omega arith
            lowest Missing f = omega arith
            lowest Early f = omega arith

        module _ (ranks : List (Option ℕ)) (seated : AreSeated (seating items s.waves s.ranks ranks)) where
          -- an item of this wave had none before
          free : (i : ℕ) → Contains items i → get_or s.ranks i None ≡ None
          free i c = subst (λ j. get_or s.ranks j None ≡ None) (get_or_default items c.0 0 i c.1 ∙ c.2) (seated.free c.0 c.1)

          once : NamesChangeAgain e → ⊥
          once f =
              let same = same_words f.words f.wave in
              let l : f.place < length words = subst (λ ws. f.place < length ws) same f.within in
              let stood = subst (λ ws. Contains (stood_on lines ++ take f.place ws) (get_or ws f.place [])) same f.stood in
              ⊎_elim
              (λ before. not_before l before)
              (λ here. not_here l here)
              (Contains-append_cases (stood_on lines) (take f.place words) (get_or words f.place []) stood)
            where
              not_before : f.place < length words → Contains (stood_on lines) (get_or words f.place []) → ⊥
              not_before l c =
                  let place = led.places (get_or words f.place []) (get_or items f.place 0) (named_at f.place l) in
                  let none = seated.free f.place (omega (arith, long, l)) in
                  subst (λ o. MatchOption o (Contains (stood_on lines) (get_or words f.place []) → ⊥)
                  (IsInOneWave (waves_on Two lines) (get_or words f.place []))) none place c

              not_here : f.place < length words → Contains (take f.place words) (get_or words f.place []) → ⊥
              not_here l c =
                  let its = zip_partner (NamesItem net) (take f.place words) (take f.place items) (get_or words f.place []) 0
                  (zip_take (NamesItem net) f.place words items named) c in
                  let one = NamesItem-unique net (get_or words f.place []) its.1 (get_or items f.place 0) network its.4 (named_at f.place l) in
                  seated.once f.place (omega (arith, long, l)) (subst (Contains (take f.place items)) one (its.0, its.2, its.3))

          -- an early item is the second change of a router whose first one stood on no line
          pub lowest_early : Any (IsEarlyItem ranks s.waves) items → IsLowestTwoFault net e Early
          lowest_early any = record { fault = fault; lowest = lowest }
            where
              it : ℕ
              it = (any_in (IsEarlyItem ranks s.waves) items any).item

              early : IsEarlyItem ranks s.waves it
              early = (any_in (IsEarlyItem ranks s.waves) items any).holds

              among : Contains items it
              among = (any_in (IsEarlyItem ranks s.waves) items any).among

              fault : NamesChangeEarly e
              fault =
                  let its = zip_item (NamesItem net) words items it [] named among in
                  let second = second_of net its.1 early.router (subst (NamesItem net its.1) early.is_second its.4) in
                  record {
                    words = words;
                    wave = is;
                    name = second.name;
                    second = subst (Contains words) second.word_is (its.0, its.2, its.3);
                    absent = λ c. not_before second.name second.named c;
                  }
                where
                  by_rank : (name : List ℕ) → (o : Option ℕ) → get_or s.ranks (2 * early.router) None ≡ o →
                      MatchOption o (Contains (stood_on lines) (change_word name 1) → ⊥) (IsInOneWave (waves_on Two lines) (change_word name 1)) →
                      Contains (stood_on lines) (change_word name 1) → ⊥
                  by_rank name None has at c = at c
                  by_rank name (Some v) has at c =
                      ⊎_elim
                      (λ here. let none = free (2 * early.router) here in cc)
                      (λ out. early.late v (seated.kept (2 * early.router) out ∙ has) (omega (arith, at.within, led.count)))
                      (in_or_out items (2 * early.router))

                  not_before : (name : List ℕ) → IsNamed net name early.router → Contains (stood_on lines) (change_word name 1) → ⊥
                  not_before name n c =
                      by_rank name (get_or s.ranks (2 * early.router) None) refl
                      (led.places (change_word name 1) (2 * early.router) (first_named net name early.router n)) c

              lowest : (its : TwoKind) → IsTwoFaultBehind net e its → 5 ≤ two_kind_rank its
              lowest Form f = absurd (formed f)
              lowest NotInNetwork f = absurd (known f)
              lowest Twice f = absurd (once f)
              lowest Missing f = absurd f
              lowest Early f = omega arith

          module _ (turned : All (λ i. IsEarlyItem ranks s.waves i → ⊥) items) where
            -- the first change of a router whose second one is of this wave had a wave before
            had_first : (u : ℕ) → Contains items (2 * u + 1) →
                (v : ℕ) × (get_or s.ranks (2 * u) None ≡ Some v) × (get_or ranks (2 * u) None ≡ Some v) × (v < s.waves)
            had_first u c = by_rank (get_or ranks (2 * u) None) refl
              where
                late : ((v : ℕ) → get_or ranks (2 * u) None ≡ Some v → v < s.waves → ⊥) → ⊥
                late none = All-contains (λ i. IsEarlyItem ranks s.waves i → ⊥) items (2 * u + 1) turned c
                    (record { router = u; is_second = refl; late = none })

                by_wave : (v : ℕ) → get_or ranks (2 * u) None ≡ Some v →
                    (v : ℕ) × (get_or s.ranks (2 * u) None ≡ Some v) × (get_or ranks (2 * u) None ≡ Some v) × (v < s.waves)
                by_wave v has =
                    ⊎_elim
                    (λ (l : v < s.waves). ⊎_elim
                    (λ here. absurd (let now = seated.seated (2 * u) here in let same : v ≡ s.waves = cc in omega arith))
                    (λ out. (v, sym (seated.kept (2 * u) out) ∙ has, has, l))
                    (in_or_out items (2 * u)))
                    (λ g. absurd (late (λ w again l. let same : v ≡ w = cc in omega arith)))
                    (cases_lt v s.waves)

                by_rank : (o : Option ℕ) → get_or ranks (2 * u) None ≡ o →
                    (v : ℕ) × (get_or s.ranks (2 * u) None ≡ Some v) × (get_or ranks (2 * u) None ≡ Some v) × (v < s.waves)
                by_rank None has = absurd (late (λ v again l. let apart = again in cc))
                by_rank (Some v) has = by_wave v has

            in_time : NamesChangeEarly e → ⊥
            in_time f =
                let its = zip_partner (NamesItem net) words items (change_word f.name 2) 0 named
                (subst (λ ws. Contains ws (change_word f.name 2)) (same_words f.words f.wave) f.second) in
                let parts = second_item net f.name its.1 its.4 in
                let u : ℕ = its.4.router in
                let had = had_first u (subst (Contains items) parts.0 (its.0, its.2, its.3)) in
                let place = led.places (change_word f.name 1) (2 * u) (first_named net f.name u parts.1) in
                let at = subst (λ o. MatchOption o (Contains (stood_on lines) (change_word f.name 1) → ⊥)
                (IsInOneWave (waves_on Two lines) (change_word f.name 1)))
                had.1 place in
                f.absent (among_all (waves_on Two lines) had.0 (change_word f.name 1) at.among)

            none_here : (kind : TwoKind) → IsTwoFaultBehind net e kind → ⊥
            none_here Form f = formed f
            none_here NotInNetwork f = known f
            none_here Twice f = once f
            none_here Missing f = f
            none_here Early f = in_time f

            -- one wave more
            more_waves : waves_on Two (lines ++ line ∷ []) ≡ waves_on Two lines ++ words ∷ []
            more_waves =
                filter_map-append (wave_on Two) lines (line ∷ [])
                ∙ ap (λ l. waves_on Two lines ++ l) (let one : waves_on Two (line ∷ []) ≡ words ∷ [] = rw is.says refl in one)

            same_chains : chains_on Two (lines ++ line ∷ []) ≡ chains_on Two lines
            same_chains =
                filter_map-append (chain_on Two) lines (line ∷ [])
                ∙ ap (λ l. chains_on Two lines ++ l)
                (let none = wave_no_chain Two line words is.says in let one : chains_on Two (line ∷ []) ≡ [] = rw none refl in one)
                ∙ append-nil (chains_on Two lines)

            count_one : length (waves_on Two lines ++ words ∷ []) ≡ s.waves + 1
            count_one = omega (arith, length-append (waves_on Two lines) (words ∷ []), led.count)

            old_wave : (w : ℕ) → w < s.waves → wave_at (waves_on Two lines ++ words ∷ []) w ≡ wave_at (waves_on Two lines) w
            old_wave w l = get_or_append_left (waves_on Two lines) (words ∷ []) [] w (omega (arith, led.count, l))

            new_wave : wave_at (waves_on Two lines ++ words ∷ []) s.waves ≡ words
            new_wave = subst (λ k. wave_at (waves_on Two lines ++ words ∷ []) k ≡ words) led.count (get_or-append_seam (waves_on Two lines) words [] [])

            -- a word of some wave is one of a wave before, or of this one
            of_wave : (w : ℕ) (word : List ℕ) → Contains (wave_at (waves_on Two lines ++ words ∷ []) w) word →
                (Contains (wave_at (waves_on Two lines) w) word × (w < s.waves)) ⊎ (Contains words word × (w ≡ s.waves))
            of_wave w word c =
                ⊎_elim
                (λ (l : w < s.waves). inl (subst (λ x. Contains x word) (old_wave w l) c, l))
                (λ g. ⊎_elim
                (λ (h : w < s.waves + 1).
                let here : w ≡ s.waves = omega arith in
                inr (subst (λ x. Contains x word) (ap (wave_at (waves_on Two lines ++ words ∷ [])) here ∙ new_wave) c, here))
                (λ past. absurd (Contains-none word (subst (λ x. Contains x word)
                (get_or_past (waves_on Two lines ++ words ∷ []) w [] (omega (arith, count_one, past))) c)))
                (cases_lt w (s.waves + 1)))
                (cases_lt w s.waves)

            -- the place of a word that isn't of this wave
            place_kept : (word : List ℕ) (o : Option ℕ) → (Contains words word → ⊥) →
                MatchOption o (Contains (stood_on lines) word → ⊥) (IsInOneWave (waves_on Two lines) word) →
                MatchOption o (Contains (all_in (waves_on Two lines ++ words ∷ [])) word → ⊥) (IsInOneWave (waves_on Two lines ++ words ∷ []) word)
            place_kept word None out at = λ c.
                let all : all_in (waves_on Two lines ++ words ∷ []) ≡ stood_on lines ++ words =
                all_in-append (waves_on Two lines) (words ∷ []) ∙ ap (λ l. stood_on lines ++ l) (append-nil words) in
                ⊎_elim at out (Contains-append_cases (stood_on lines) words word (subst (λ l. Contains l word) all c))
            place_kept word (Some v) out at = record {
              within = omega (arith, at.within, length-append (waves_on Two lines) (words ∷ []));
              among = subst (λ x. Contains x word) (sym (old_wave v (omega (arith, at.within, led.count)))) at.among;
              only = λ w c. ⊎_elim (λ old. at.only w old.0) (λ new. absurd (out new.0)) (of_wave w word c);
            }

            place_new : (word : List ℕ) (i : ℕ) → NamesItem net word i → Contains items i → IsInOneWave (waves_on Two lines ++ words ∷ []) word s.waves
            place_new word i n c =
                let none = free i c in
                let not_before : Contains (stood_on lines) word → ⊥ =
                subst (λ o. MatchOption o (Contains (stood_on lines) word → ⊥) (IsInOneWave (waves_on Two lines) word)) none (led.places word i n) in
                record {
                  within = omega (arith, count_one);
                  among = subst (λ x. Contains x word) (sym new_wave) (word_among i word n c);
                  only = λ w d. ⊎_elim (λ old. absurd (not_before (among_all (waves_on Two lines) w word old.0))) (λ new. new.1) (of_wave w word d);
                }

            places_more : (word : List ℕ) (i : ℕ) → NamesItem net word i →
                MatchOption (get_or ranks i None) (Contains (all_in (waves_on Two lines ++ words ∷ [])) word → ⊥)
                (IsInOneWave (waves_on Two lines ++ words ∷ []) word)
            places_more word i n =
                ⊎_elim
                (λ c. subst (λ o. MatchOption o (Contains (all_in (waves_on Two lines ++ words ∷ [])) word → ⊥)
                (IsInOneWave (waves_on Two lines ++ words ∷ []) word)) (sym (seated.seated i c)) (place_new word i n c))
                (λ out. subst (λ o. MatchOption o (Contains (all_in (waves_on Two lines ++ words ∷ [])) word → ⊥)
                (IsInOneWave (waves_on Two lines ++ words ∷ []) word)) (sym (seated.kept i out))
                (place_kept word (get_or s.ranks i None) (λ c. out (item_among i word n c)) (led.places word i n)))
                (in_or_out items i)

            known_more : (word : List ℕ) → Contains (all_in (waves_on Two lines ++ words ∷ [])) word → (i : ℕ) × NamesItem net word i
            known_more word c =
                let all : all_in (waves_on Two lines ++ words ∷ []) ≡ stood_on lines ++ words =
                all_in-append (waves_on Two lines) (words ∷ []) ∙ ap (λ l. stood_on lines ++ l) (append-nil words) in
                ⊎_elim (led.known word)
                (λ here. let its = zip_partner (NamesItem net) words items word 0 named here in
                let some : (i : ℕ) × NamesItem net word i = (its.1, its.4) in some)
                (Contains-append_cases (stood_on lines) words word (subst (λ l. Contains l word) all c))

            -- the wave of an item that had one stays
            stays : (i w : ℕ) → get_or s.ranks i None ≡ Some w → get_or ranks i None ≡ Some w
            stays i w has =
                ⊎_elim (λ c. absurd (let none = free i c in cc)) (λ out. seated.kept i out ∙ has) (in_or_out items i)

            used_more : (w : ℕ) → w < s.waves + 1 → Contains ranks (Some w)
            used_more w l =
                ⊎_elim
                (λ (old : w < s.waves).
                let c = led.used w old in
                let has : get_or s.ranks c.0 None ≡ Some w = get_or_default s.ranks c.0 None (Some w) c.1 ∙ c.2 in
                let within : c.0 < length ranks = omega (arith, c.1, seated.count) in
                let some : Contains ranks (Some w) = (c.0, within, get_or_default ranks c.0 (Some w) None within ∙ stays c.0 w has) in some)
                (λ up.
                let here : w ≡ s.waves = omega arith in
                let some_words = wave_some Two line words is.says in
                let first : Contains items (get_or items 0 0) = Contains-get_or items 0 0 (omega (arith, long, some_words)) in
                let now = seated.seated (get_or items 0 0) first in
                let below : get_or items 0 0 < length ranks =
                omega (arith, NamesItem-below net (get_or words 0 []) (get_or items 0 0) (named_at 0 some_words), seated.count, led.each) in
                subst (λ k. Contains ranks (Some k)) (sym here)
                (get_or items 0 0, below, get_or_default ranks (get_or items 0 0) (Some s.waves) None below ∙ now))
                (cases_lt w s.waves)

            turns_more : (u w : ℕ) → u < length net → get_or ranks (2 * u + 1) None ≡ Some w →
                (v : ℕ) × (get_or ranks (2 * u) None ≡ Some v) × (v < w)
            turns_more u w l has =
                ⊎_elim
                (λ c.
                let had = had_first u c in
                let now = seated.seated (2 * u + 1) c in
                let here : w ≡ s.waves = cc in
                let some : (v : ℕ) × (get_or ranks (2 * u) None ≡ Some v) × (v < w) = (had.0, had.2, omega (arith, had.3)) in some)
                (λ out.
                let before = led.in_turn u w l (sym (seated.kept (2 * u + 1) out) ∙ has) in
                let some : (v : ℕ) × (get_or ranks (2 * u) None ≡ Some v) × (v < w) = (before.0, stays (2 * u) before.0 before.1, before.2) in some)
                (in_or_out items (2 * u + 1))

            pub wave_leads : HaveLedTo net (lines ++ line ∷ []) (record { ranks = ranks; waves = s.waves + 1; chained = s.chained })
            wave_leads = record {
              each = seated.count ∙ led.each;
              count = ap length more_waves ∙ count_one;
              places = λ word i n. subst (λ ws. MatchOption (get_or ranks i None) (Contains (all_in ws) word → ⊥) (IsInOneWave ws word)) (sym more_waves)
                  (places_more word i n);
              known = λ word c. known_more word (subst (λ ws. Contains (all_in ws) word) more_waves c);
              used = used_more;
              in_turn = turns_more;
              chained = λ t. absurd (let f = unchained in cc);
              unchained = λ f. same_chains ∙ led.unchained f;
              faultless = faultless_more net lines line led.faultless none_here;
            }
