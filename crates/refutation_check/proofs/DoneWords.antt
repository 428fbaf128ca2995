-- The words of a start: one phase more, phases of Old behind, and which changes they name.
use Rattle.std.proofs.Common.{◌≡◌, ℕ, zero, suc, ◌+◌, ◌-◌, ◌*◌, ◌/◌, ◌%◌, ◌<◌, ◌≤◌, List, [], ◌∷◌, ◌++◌, length, get_or}
use Rattle.std.proofs.Common.{replicate, take}
use Rattle.std.proofs.Common.{All, AllPairs, arith, refl, sym, ap, ◌∙◌, subst, append_assoc, codes, length-append}
use Rattle.std.proofs.lemmas.List.{append-nil, length-map, length-replicate, take_all}
use Rattle.std.proofs.lemmas.List.Elements.{All-append, All-cons, All-head, All-nil}
use Rattle.std.proofs.lemmas.List.Kept.{AllPairs-cons}
use Rattle.net_model.specs.Configuration.{Configuration}
use Rattle.net_model.specs.Lookups.{IsNamed}
use Rattle.net_model.specs.Network.{Network}
use Rattle.net_model.specs.Refusals.{IsNetwork, NamesAscend}
use Rattle.net_model.specs.RouterNames.{names_of}
use Rattle.igp_theory.specs.declared.phase.Phase.{Phase}
use Rattle.igp_theory.specs.declared.phase.Phase.TheVariants.{Old, Middle, New}
use Rattle.change_orders.specs.ChangeWords.{IsChangeNumber, IsChangeWord, NamesItem, change_word}
use Rattle.change_orders.specs.TwoTexts.{item_word}
use Rattle.change_orders.proofs.ItemFacts.{NamesItem-below, NamesItem-unique, NamesItem-word, word_parts}
use Rattle.plan_theory.specs.declared.items.Items.TheVariants.{Changes}
use Rattle.refutation_check.specs.StartLines.{HasStartForm, SaysStart, WrongStart, done_words, made_words}
use Rattle.refutation_check.specs.steps.Starts.{TakesEntry}
use Rattle.refutation_check.specs.declared.verdict.WrongKind.{WrongKind}
use Rattle.refutation_check.specs.declared.verdict.WrongKind.TheVariants.{Form, Router, Address, Originator, Step, OneSided, NotAssumed}
use Rattle.refutation_check.proofs.PrintedTrees.{name_word, named, number_named}
use Rattle.refutation_check.proofs.SaidNodes.{first_word, later_words}

-- One phase more

done_old : (names : List (List ℕ)) (m : ℕ) → done_words names (replicate m Old) ≡ []
done_old names zero = refl
done_old [] (suc m) = refl
done_old (name ∷ names) (suc m) = done_old names m

-- routers in Old add no word
pub done_padded : (names : List (List ℕ)) (start : List Phase) (m : ℕ) → done_words names (start ++ replicate m Old) ≡ done_words names start
done_padded names [] m = done_old names m
done_padded [] (phase ∷ start) m = refl
done_padded (name ∷ names) (phase ∷ start) m = ap (λ (l : List (List ℕ)). made_words name phase ++ l) (done_padded names start m)

pub done_more : (names : List (List ℕ)) (start : List Phase) (phase : Phase) → length start < length names →
    done_words names (start ++ phase ∷ []) ≡ done_words names start ++ made_words (get_or names (length start) []) phase
done_more [] start phase within = absurd (omega (arith, within))
done_more (name ∷ names) [] phase within = append-nil (made_words name phase)
done_more (name ∷ names) (one ∷ start) phase within =
    ap (λ (l : List (List ℕ)). made_words name one ++ l) (done_more names start phase (omega (arith, within)))
    ∙ sym (append_assoc (made_words name one) (done_words names start) (made_words (get_or names (length start) []) phase))

-- What holds of the words of changes

made_all : (P : List ℕ → Type 0) (name : List ℕ) (phase : Phase) → ((c : ℕ) → IsChangeNumber c → P (change_word name c)) →
    All P (made_words name phase)
made_all P name Old each = All-nil P
made_all P name Middle each = All-cons P (change_word name 1) [] (each 1 (omega arith, omega arith)) (All-nil P)
made_all P name New each = All-cons P (change_word name 2) [] (each 2 (omega arith, omega arith)) (All-nil P)

pub done_all : (P : List ℕ → Type 0) (names : List (List ℕ)) (start : List Phase) →
    ((k c : ℕ) → k < length names → IsChangeNumber c → P (change_word (get_or names k []) c)) → All P (done_words names start)
done_all P names [] each = All-nil P
done_all P [] (phase ∷ start) each = All-nil P
done_all P (name ∷ names) (phase ∷ start) each =
    All-append P (made_words name phase) (done_words names start) (made_all P name phase (λ c is. each 0 c (omega arith) is))
    (done_all P names start (λ k c within is. each (suc k) c (omega (arith, within)) is))

-- The routers of the words ascend

none_paired : (R : List ℕ → List ℕ → Type 0) → AllPairs R []
none_paired R i j d less within = absurd (omega (arith, within))

module _ (net : Network) (up : NamesAscend net) where
  -- these are the names of routers from u on
  abbrev NamedFrom : ℕ → List (List ℕ) → Type 0
  NamedFrom u names = (k v : ℕ) → k < length names → v ≡ u + k → IsNamed net (get_or names k []) v

  named_later : (u : ℕ) (name : List ℕ) (names : List (List ℕ)) → NamedFrom u (name ∷ names) → NamedFrom (u + 1) names
  named_later u name names each k v within is = each (suc k) v (omega (arith, within)) (omega (arith, is))

  named_first : (u : ℕ) (name : List ℕ) (names : List (List ℕ)) → NamedFrom u (name ∷ names) → IsNamed net name u
  named_first u name names each = each 0 u (omega arith) (omega arith)

  -- a router's change
  its_item : (name : List ℕ) (u c : ℕ) → IsNamed net name u → IsChangeNumber c → NamesItem net (change_word name c) (2 * u + c - 1)
  its_item name u c is number =
      record { router = u; name = name; named = is; number = c; is_number = number; word_is = refl; item_is = omega (arith, number.0, number.1) }

  -- is the only one that its word names
  its_router : (name : List ℕ) (u c i : ℕ) → IsNamed net name u → IsChangeNumber c → NamesItem net (change_word name c) i → i / 2 ≡ u
  its_router name u c i is number names =
      let same : i ≡ 2 * u + c - 1 = NamesItem-unique net (change_word name c) i (2 * u + c - 1) up names (its_item name u c is number) in
      omega (arith, same, number.0, number.1)

  -- a word names changes of routers from u on
  abbrev IsFrom : ℕ → List ℕ → Type 0
  IsFrom u word = (i : ℕ) → NamesItem net word i → u ≤ i / 2

  done_from : (names : List (List ℕ)) (start : List Phase) (u : ℕ) → NamedFrom u names → All (IsFrom u) (done_words names start)
  done_from names start u each =
      done_all (IsFrom u) names start
      (λ k c within number i is. omega (arith, its_router (get_or names k []) (u + k) c i (each k (u + k) within refl) number is))

  -- the router of a word is below that of another
  abbrev pub IsBefore : List ℕ → List ℕ → Type 0
  IsBefore one other = (i j : ℕ) → NamesItem net one i → NamesItem net other j → i / 2 < j / 2

  one_before : (name : List ℕ) (names : List (List ℕ)) (start : List Phase) (u c : ℕ) → IsChangeNumber c → NamedFrom u (name ∷ names) →
      AllPairs IsBefore (done_words names start) → AllPairs IsBefore (change_word name c ∷ done_words names start)
  one_before name names start u c number each rest =
      AllPairs-cons IsBefore (change_word name c) (done_words names start)
      (λ k d within i j one other.
      omega (
        arith,
        its_router name u c i (named_first u name names each) number one,
        done_from names start (u + 1) (named_later u name names each) k d within j other,
      ))
      rest

  done_ascends : (names : List (List ℕ)) (start : List Phase) (u : ℕ) → NamedFrom u names → AllPairs IsBefore (done_words names start)
  done_ascends names [] u each = none_paired IsBefore
  done_ascends [] (phase ∷ start) u each = none_paired IsBefore
  done_ascends (name ∷ names) (Old ∷ start) u each = done_ascends names start (u + 1) (named_later u name names each)
  done_ascends (name ∷ names) (Middle ∷ start) u each =
      one_before name names start u 1 (omega arith, omega arith) each (done_ascends names start (u + 1) (named_later u name names each))
  done_ascends (name ∷ names) (New ∷ start) u each =
      one_before name names start u 2 (omega arith, omega arith) each (done_ascends names start (u + 1) (named_later u name names each))

  -- so no further router's words begin with that of a change of this one
  never_later : (name : List ℕ) (names more : List (List ℕ)) (start : List Phase) (u c : ℕ) → IsChangeNumber c → NamedFrom u (name ∷ names) →
      done_words names start ≡ change_word name c ∷ more → ⊥
  never_later name names more start u c number each e =
      let from : All (IsFrom (u + 1)) (change_word name c ∷ more) =
      subst (All (IsFrom (u + 1))) e (done_from names start (u + 1) (named_later u name names each)) in
      omega (
        arith,
        All-head (IsFrom (u + 1)) (change_word name c) more from (2 * u + c - 1) (its_item name u c (named_first u name names each) number),
        number.0,
        number.1,
      )

  never_both : (name : List ℕ) (rest more : List (List ℕ)) → change_word name 1 ∷ rest ≡ change_word name 2 ∷ more → ⊥
  never_both name rest more e =
      omega (arith, (word_parts name name 1 2 (first_word (change_word name 1) (change_word name 2) rest more e)).1)

  -- the words tell each phase
  one_done : (names : List (List ℕ)) (one other : List Phase) (u : ℕ) → NamedFrom u names → length one ≡ length names →
      length other ≡ length names → done_words names one ≡ done_words names other → one ≡ other
  one_done [] [] [] u each many also e = refl
  one_done [] (p ∷ one) other u each many also e = absurd (omega (arith, many))
  one_done [] [] (q ∷ other) u each many also e = absurd (omega (arith, also))
  one_done (name ∷ names) [] other u each many also e = absurd (omega (arith, many))
  one_done (name ∷ names) (p ∷ one) [] u each many also e = absurd (omega (arith, also))
  one_done (name ∷ names) (Old ∷ one) (Old ∷ other) u each many also e =
      ap (λ (l : List Phase). Old ∷ l)
      (one_done names one other (u + 1) (named_later u name names each) (omega (arith, many)) (omega (arith, also)) e)
  one_done (name ∷ names) (Middle ∷ one) (Middle ∷ other) u each many also e =
      ap (λ (l : List Phase). Middle ∷ l)
      (one_done names one other (u + 1) (named_later u name names each) (omega (arith, many)) (omega (arith, also))
      (later_words (change_word name 1) (change_word name 1) (done_words names one) (done_words names other) e))
  one_done (name ∷ names) (New ∷ one) (New ∷ other) u each many also e =
      ap (λ (l : List Phase). New ∷ l)
      (one_done names one other (u + 1) (named_later u name names each) (omega (arith, many)) (omega (arith, also))
      (later_words (change_word name 2) (change_word name 2) (done_words names one) (done_words names other) e))
  one_done (name ∷ names) (Old ∷ one) (Middle ∷ other) u each many also e =
      absurd (never_later name names (done_words names other) one u 1 (omega arith, omega arith) each e)
  one_done (name ∷ names) (Old ∷ one) (New ∷ other) u each many also e =
      absurd (never_later name names (done_words names other) one u 2 (omega arith, omega arith) each e)
  one_done (name ∷ names) (Middle ∷ one) (Old ∷ other) u each many also e =
      absurd (never_later name names (done_words names one) other u 1 (omega arith, omega arith) each (sym e))
  one_done (name ∷ names) (New ∷ one) (Old ∷ other) u each many also e =
      absurd (never_later name names (done_words names one) other u 2 (omega arith, omega arith) each (sym e))
  one_done (name ∷ names) (Middle ∷ one) (New ∷ other) u each many also e =
      absurd (never_both name (done_words names one) (done_words names other) e)
  one_done (name ∷ names) (New ∷ one) (Middle ∷ other) u each many also e =
      absurd (never_both name (done_words names other) (done_words names one) (sym e))

-- Of a network

pub many_names : (net : Network) → length (names_of net) ≡ length net
many_names net = length-map net (λ (c : Configuration). c.name)

module _ (net : Network) (network : IsNetwork net) where
  all_named : NamedFrom net network.ascending 0 (names_of net)
  all_named k v within is =
      let same : v ≡ k = omega (arith, is) in
      subst (IsNamed net (get_or (names_of net) k [])) (sym same) (named net k (omega (arith, within, many_names net)))

  pub start_ascends : (start : List Phase) → AllPairs (IsBefore net network.ascending) (done_words (names_of net) start)
  start_ascends start = done_ascends net network.ascending (names_of net) start 0 all_named

  -- each word names a change
  pub start_named : (start : List Phase) → All (λ (word : List ℕ). (i : ℕ) × NamesItem net word i) (done_words (names_of net) start)
  start_named start =
      done_all (λ (word : List ℕ). (i : ℕ) × NamesItem net word i) (names_of net) start
      (λ k c within number. (2 * k + c - 1, its_item net network.ascending (get_or (names_of net) k []) k c (all_named k k within (omega arith)) number))

  -- a start has the form of one
  pub says_form : (words : List (List ℕ)) (start : List Phase) → SaysStart net words start → HasStartForm net words
  says_form words start says = record {
    entries = done_words (names_of net) start;
    words_are = says.words_are;
    changes = done_all IsChangeWord (names_of net) start (λ k c within number. record {
      name = get_or (names_of net) k [];
      some = (name_word net network k (omega (arith, within, many_names net))).some;
      number = c;
      is_number = number;
      word_is = refl;
    });
    in_order = λ i j d less within a b one other. omega (arith, start_ascends start i j d less within a b one other);
  }

  pub one_start : (words : List (List ℕ)) (one other : List Phase) → SaysStart net words one → SaysStart net words other → one ≡ other
  one_start words one other is also =
      one_done net network.ascending (names_of net) one other 0 all_named (is.each ∙ sym (many_names net)) (also.each ∙ sym (many_names net))
      (later_words (codes "start") (codes "start") (done_words (names_of net) one) (done_words (names_of net) other) (sym is.words_are ∙ also.words_are))

  -- words that say a start are wrong in no way
  pub says_right : (words : List (List ℕ)) (start : List Phase) (kind : WrongKind) → SaysStart net words start → WrongStart net words kind → ⊥
  says_right words start Form says wrong = wrong (says_form words start says)
  says_right words start Router says wrong = wrong start says
  says_right words start Address says wrong = wrong
  says_right words start Originator says wrong = wrong
  says_right words start Step says wrong = wrong
  says_right words start OneSided says wrong = wrong
  says_right words start NotAssumed says wrong = wrong

  -- a word takes the phase of its router behind phases of Old
  pub entry_taken : (word : List ℕ) (i : ℕ) (before after : List Phase) (phase : Phase) (many : ℕ) → NamesItem net word i →
      many ≡ length before → many ≤ i / 2 → ((name : List ℕ) → made_words name phase ≡ change_word name (i % 2 + 1) ∷ []) →
      after ≡ (take (i / 2) before ++ replicate (i / 2 - many) Old) ++ phase ∷ [] → TakesEntry net word before after
  entry_taken word i before after phase many names counted behind made is =
      let known : List (List ℕ) = names_of net in
      let below : i < 2 * length net = NamesItem-below net word i names in
      let padded : List Phase = before ++ replicate (i / 2 - many) Old in
      let long : length padded ≡ i / 2 =
      omega (
        arith,
        behind,
        counted,
        length-append before (replicate (i / 2 - many) Old),
        length-replicate (i / 2 - many) Old,
      ) in
      let filled : after ≡ padded ++ phase ∷ [] =
      is ∙ ap (λ (l : List Phase). (l ++ replicate (i / 2 - many) Old) ++ phase ∷ []) (take_all (i / 2) before (omega (arith, behind, counted))) in
      let the_word : made_words (get_or known (length padded) []) phase ≡ word ∷ [] =
      ap (λ (k : ℕ). made_words (get_or known k []) phase) long ∙ made (get_or known (i / 2) [])
      ∙ ap (λ (w : List ℕ). w ∷ []) (NamesItem-word net (item_word known i) word i (number_named net network Changes i below) names) in
      record {
        told = ap (done_words known) filled
            ∙ done_more known padded phase (omega (arith, long, below, many_names net))
            ∙ ap (λ (l : List (List ℕ)). l ++ made_words (get_or known (length padded) []) phase)
            (done_padded known before (i / 2 - many))
            ∙ ap (λ (l : List (List ℕ)). done_words known before ++ l) the_word;
        within = omega (arith, ap (λ (l : List Phase). length l) filled, length-append padded (phase ∷ []), long, below);
        item = i;
        names = names;
        last = omega (arith, ap (λ (l : List Phase). length l) filled, length-append padded (phase ∷ []), long);
      }
