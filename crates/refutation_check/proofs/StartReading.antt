-- The words of a start, one after another: printed; whether they stand in order, and which start they tell.
use Rattle.std.proofs.lemmas.Grind.{common_steps}
use Rattle.std.proofs.Common.{◌≡◌, ℕ, ◌+◌, ◌-◌, ◌/◌, ◌<◌, ◌≤◌, List, [], ◌∷◌, ◌++◌, length, get_or, replicate, take}
use Rattle.std.proofs.Common.{AllPairs, ⊎_elim, arith, sym, ap, ◌∙◌, subst, length-append}
use Rattle.std.proofs.lemmas.Bool.{cases_lt}
use Rattle.std.proofs.lemmas.List.{append-nil, get_or_default, length-replicate, length-take-le, take_all, take_more}
use Rattle.std.proofs.lemmas.List.Concat.{flat_map-append}
use Rattle.net_model.specs.Network.{Network}
use Rattle.net_model.specs.Refusals.{IsNetwork}
use Rattle.net_model.specs.RouterNames.{names_of}
use Rattle.igp_theory.specs.declared.phase.Phase.{Phase}
use Rattle.igp_theory.specs.declared.phase.Phase.TheVariants.{Old}
use Rattle.change_orders.specs.ChangeWords.{NamesItem}
use Rattle.printed_lines.specs.Words.{spaced}
use Rattle.refutation_check.specs.StartLines.{StandInOrder, done_words, made_words}
use Rattle.refutation_check.specs.steps.Starts.{NamesNoLaterRouter, NamesRouterBelow, RaisesRouter, TakesEntry, TellStart}
use Rattle.refutation_check.proofs.DoneWords.{done_more, done_padded, start_ascends, start_named}

-- Printed

-- a word more, by its name and its mark
pub spaced_one : (line name : List ℕ) (digit : ℕ) → (line ++ 32 ∷ name) ++ 58 ∷ digit ∷ [] ≡ line ++ spaced ((name ++ 58 ∷ digit ∷ []) ∷ [])
spaced_one line name digit = grind (arith, common_steps, append-nil)

-- the words of one router more
pub done_spaced : (names : List (List ℕ)) (start : List Phase) (i : ℕ) (line longer head : List ℕ) → i < length start → i < length names →
    line ≡ head ++ spaced (done_words names (take i start)) → longer ≡ line ++ spaced (made_words (get_or names i []) (get_or start i Old)) →
    longer ≡ head ++ spaced (done_words names (take (i + 1) start))
done_spaced names start i line longer head within named so_far is =
    grind (arith, common_steps, done_more, flat_map-append, length-take-le, take_more)

-- Read

-- a word before a place names a change of the router before this one
pub record EndsBefore (net : Network) (words : List (List ℕ)) (k next : ℕ) : Type 0 where
  pub place : ℕ
  pub before : place < k
  pub item : ℕ
  pub names : NamesItem net (get_or words place []) item
  pub last : item / 2 + 1 ≡ next

-- Whether they stand in order

-- so many first words stand in order, and the highest router of their changes, 0 where there is none
pub record StandSoFar (net : Network) (words : List (List ℕ)) (k most : ℕ) : Type 0 where
  pub ordered : (p q : ℕ) → p < q → q < k → StandInOrder net (get_or words p []) (get_or words q [])
  pub upto : (p i : ℕ) → p < k → NamesItem net (get_or words p []) i → i / 2 ≤ most
  pub reached : 0 < most → EndsBefore net words k (most + 1)

pub none_stand : (net : Network) (words : List (List ℕ)) → StandSoFar net words 0 0
none_stand net words = grind (arith, common_steps)

module _ (net : Network) (words : List (List ℕ)) (k most : ℕ) (so_far : StandSoFar net words k most) where
  -- one word more
  pub more_stand : (raised : ℕ) → RaisesRouter net (get_or words k []) most raised → StandSoFar net words (k + 1) raised
  more_stand raised raises = record {
    ordered = λ p q less within. ⊎_elim
        (λ old. so_far.ordered p q less old)
        (λ last.
        let here : k ≡ q = omega (arith, within, last) in
        let stand : StandInOrder net (get_or words p []) (get_or words k []) =
        λ i j one other. omega (arith, so_far.upto p i (omega (arith, less, here)) one, raises.more, raises.named j other) in
        subst (λ (r : ℕ). StandInOrder net (get_or words p []) (get_or words r [])) here stand)
        (cases_lt q k);
    upto = λ p i within is. ⊎_elim
        (λ old. omega (arith, so_far.upto p i old is, raises.more))
        (λ last.
        let here : p ≡ k = omega (arith, within, last) in
        omega (arith, raises.named i (subst (λ (r : ℕ). NamesItem net (get_or words r []) i) here is)))
        (cases_lt p k);
    reached = λ some. ⊎_elim
        (λ kept.
        let ends = so_far.reached (omega (arith, some, kept)) in
        record {
          place = ends.place;
          before = omega (arith, ends.before);
          item = ends.item;
          names = ends.names;
          last = omega (arith, ends.last, kept);
        })
        (λ one. record { place = k; before = omega arith; item = one.0; names = one.1; last = omega (arith, raises.named one.0 one.1) })
        raises.known;
  }

  -- a lower router breaks the order
  pub broken : NamesRouterBelow net (get_or words k []) most → k < length words → AllPairs (StandInOrder net) words → ⊥
  broken low within pairs =
      let ends = so_far.reached (omega (arith, low.below)) in
      omega (arith, pairs ends.place k [] ends.before within ends.item low.item ends.names low.names, ends.last, low.below)

  -- all stand in order
  pub all_stand : length words ≤ k → AllPairs (StandInOrder net) words
  all_stand past i j d less within =
      subst (λ (w : List ℕ). StandInOrder net w (get_or words j d)) (get_or_default words i [] d (omega (arith, less, within)))
      (subst (λ (w : List ℕ). StandInOrder net (get_or words i []) w) (get_or_default words j [] d within)
      (so_far.ordered i j less (omega (arith, within, past))))

-- Which start they tell

-- so many first words tell the phases of some first routers, of which the last one has a word
pub record TellSoFar (net : Network) (words : List (List ℕ)) (k : ℕ) (start : List Phase) : Type 0 where
  pub told : done_words (names_of net) start ≡ take k words
  pub within : length start ≤ length net
  pub last : 0 < length start → EndsBefore net words k (length start)

pub none_tell : (net : Network) (words : List (List ℕ)) (start : List Phase) → start ≡ [] → TellSoFar net words 0 start
none_tell net words start is = grind (arith, common_steps)

module _ (net : Network) (words : List (List ℕ)) (k : ℕ) (start : List Phase) (so_far : TellSoFar net words k start) where
  pub more_tell : (after : List Phase) → k < length words → TakesEntry net (get_or words k []) start after → TellSoFar net words (k + 1) after
  more_tell after within takes = record {
    told = takes.told ∙ ap (λ (l : List (List ℕ)). l ++ get_or words k [] ∷ []) so_far.told ∙ sym (take_more words k [] within);
    within = takes.within;
    last = λ some. record { place = k; before = omega arith; item = takes.item; names = takes.names; last = takes.last };
  }

  -- a word of no later router: no start has these words
  pub none_told : IsNetwork net → k < length words → NamesNoLaterRouter net (get_or words k []) start → (others : List Phase) →
      TellStart net words others → ⊥
  none_told network within no_later others tell =
      let known = subst (λ (l : List (List ℕ)). (i : ℕ) × NamesItem net (get_or l k []) i) (sym tell.entries_are)
      (start_named net network others k [] (subst (λ (l : List (List ℕ)). k < length l) tell.entries_are within)) in
      let below : known.0 / 2 < length start = no_later known.0 known.1 in
      let ends = so_far.last (omega (arith, below)) in
      let less = subst (λ (l : List (List ℕ)).
      k < length l → (i j : ℕ) → NamesItem net (get_or l ends.place []) i → NamesItem net (get_or l k []) j → i / 2 < j / 2)
      (sym tell.entries_are)
      (λ inside. start_ascends net network others ends.place k [] ends.before inside) within ends.item known.0 ends.names known.1 in
      omega (arith, less, ends.last, below)

  -- behind the last word all further routers are Old
  pub all_told : (n len : ℕ) (whole : List Phase) → n ≡ length net → len ≡ length start → length words ≤ k →
      whole ≡ take n start ++ replicate (n - len) Old → TellStart net words whole
  all_told n len whole many counted past is =
      let filled : whole ≡ start ++ replicate (n - len) Old =
      is ∙ ap (λ (l : List Phase). l ++ replicate (n - len) Old) (take_all n start (omega (arith, so_far.within, many))) in
      record {
        each = omega (
          arith,
          ap (λ (l : List Phase). length l) filled,
          length-append start (replicate (n - len) Old),
          length-replicate (n - len) Old,
          so_far.within,
          counted,
          many,
        );
        entries_are = sym (take_all k words past) ∙ sym so_far.told ∙ sym (done_padded (names_of net) start (n - len))
            ∙ ap (done_words (names_of net)) (sym filled);
      }
