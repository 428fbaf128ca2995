-- What was found of the words of a wave, and what giving them a wave comes to.
use Rattle.std.proofs.Common.{◌≡◌, Bool, true, false, not, Bor, ℕ, ◌+◌, ◌-◌, ◌*◌, ◌/◌, ◌%◌, ◌<◌, ◌≤◌, Option, Some, None, List, [], ◌∷◌, ◌++◌, length, get_or, take, map, set, Contains, ◌⊎◌}
use Rattle.std.proofs.Common.{refl, sym, ap, subst, ◌∙◌, ⊎_elim, inl, inr, arith}
use Rattle.std.specs.Prelude.{is_some}
use Rattle.std.specs.List.{AllZip}
use Rattle.std.proofs.lemmas.Bool.{cases_eq, cases_lt}
use Rattle.std.proofs.lemmas.List.{get_or_append_left, get_or-set_other, get_or-set_same, length-append, length-set, length-take-le, map_more, take_more, take-append-le}
use Rattle.std.proofs.Math.Seq.{get_or-append_seam, take-append_seam}
use Rattle.std.proofs.lemmas.List.Elements.{Contains-append_cases, Contains-append_left, Contains-append_right, Contains-get_or}
use Rattle.std.proofs.lemmas.Slice.Zip.{AllZip-long, all_zipped_more}
use Rattle.net_model.specs.Network.{Network}
use Rattle.net_model.specs.Refusals.{NamesAscend}
use Rattle.net_model.proofs.Members.{Contains-cases, Contains-first, Contains-none, Contains-rest}
use Rattle.step_scripts.proofs.Zips.{zip_at}
use Rattle.change_orders.specs.ChangeWords.{NamesItem}
use Rattle.change_orders.specs.TwoFaults.{BreakItemOrder, NamesNoChange, TwoEntry, IsWaveOf}
use Rattle.change_orders.specs.steps.Found.{AreSeated, AscendWhereFound, DescendSomewhere, IsEarlyItem, IsItemFound, IsSeatTaken, LacksSome, Seating}
use Rattle.change_orders.proofs.ItemFacts.{NamesItem-unique}

-- a number is in a list or isn't
pub in_or_out : (xs : List ℕ) (i : ℕ) → Contains xs i ⊎ (Contains xs i → ⊥)
in_or_out [] i = inr (Contains-none i)
in_or_out (x ∷ xs) i =
    ⊎_elim
    (λ (e : x ≡ i). inl (subst (Contains (x ∷ xs)) e (Contains-first x xs)))
    (λ apart. ⊎_elim (λ (c : Contains xs i). inl (Contains-rest x xs i c))
    (λ out. inr (λ c. ⊎_elim apart out (Contains-cases x xs i c))) (in_or_out xs i))
    (cases_eq x i)

module _ (net : Network) (network : NamesAscend net) where
  -- what was found of a word that names an item is this item
  pub found_is : (word : List ℕ) (found : Option ℕ) (i : ℕ) → IsItemFound net word found → NamesItem net word i → found ≡ Some i
  found_is word None i h n = absurd (h i n)
  found_is word (Some j) i h n = ap Some (NamesItem-unique net word j i network h n)

  module _ (words : List (List ℕ)) (found : List (Option ℕ)) (zip : AllZip (IsItemFound net) words found) where
    at : (p : ℕ) → p < length words → IsItemFound net (get_or words p []) (get_or found p None)
    at p l = zip_at (IsItemFound net) words found p [] None zip l

    -- items that ascend break no order
    pub no_break : AscendWhereFound found (length found) → BreakItemOrder net words → ⊥
    no_break ascend f =
        let long = AllZip-long (IsItemFound net) words found zip in
        let one = found_is (get_or words f.place []) (get_or found f.place None) f.one (at f.place (omega (arith, f.before, f.within))) f.one_is in
        let other = found_is (get_or words f.later []) (get_or found f.later None) f.other (at f.later f.within) f.other_is in
        let le = ascend f.place f.later f.one f.other f.before (omega (arith, long, f.within)) one other in
        omega (arith, le, f.higher)

    -- items that descend break the order
    pub break_by : DescendSomewhere found → BreakItemOrder net words
    break_by d =
        let long = AllZip-long (IsItemFound net) words found zip in
        let within : d.later < length words = omega (arith, long, d.within) in
        record {
          place = d.place;
          later = d.later;
          before = d.before;
          within = within;
          one = d.one;
          other = d.other;
          one_is = subst (IsItemFound net (get_or words d.place [])) d.one_is (at d.place (omega (arith, d.before, within)));
          other_is = subst (IsItemFound net (get_or words d.later [])) d.other_is (at d.later within);
          higher = d.higher;
        }

    -- a word of which no item was found names no change
    pub no_change_at : (e : TwoEntry) → IsWaveOf e.line words → LacksSome found → NamesNoChange net e
    no_change_at e wave lacks =
        let long = AllZip-long (IsItemFound net) words found zip in
        let within : lacks.place < length words = omega (arith, long, lacks.within) in
        record {
          words = words;
          wave = wave;
          word = get_or words lacks.place [];
          among = Contains-get_or words lacks.place [] within;
          unknown = subst (IsItemFound net (get_or words lacks.place [])) lacks.none (at lacks.place within);
        }

-- where each was found the words name the items
pub all_named : (net : Network) (words : List (List ℕ)) (items : List ℕ) → AllZip (IsItemFound net) words (map (λ (i : ℕ). Some i) items) →
    AllZip (NamesItem net) words items
all_named net [] [] h = tt
all_named net [] (i ∷ items) h = absurd h
all_named net (word ∷ words) [] h = absurd h
all_named net (word ∷ words) (i ∷ items) h = (h.0, all_named net words items h.1)

-- ---- seating ----

abbrev pub seating : List ℕ → ℕ → List (Option ℕ) → List (Option ℕ) → Seating
seating items wave before after = record { items = items; wave = wave; before = before; after = after }

pub none_seated : (wave : ℕ) (before : List (Option ℕ)) → AreSeated (seating [] wave before before)
none_seated wave before = record {
  count = refl;
  free = λ p l. absurd (omega (arith, l));
  once = λ p l c. absurd (omega (arith, l));
  seated = λ i c. absurd (Contains-none i c);
  kept = λ i out. refl;
}

-- the items before a place and the one there
module _ (items : List ℕ) (place wave : ℕ) (before now : List (Option ℕ)) (within : place < length items)
    (front : AreSeated (seating (take place items) wave before now)) where
  abbrev item : ℕ
  item = get_or items place 0

  long : length (take place items) ≡ place
  long = length-take-le place items (omega arith)

  -- an item that has a wave had one, or stands among those before
  pub seat_taken : (w : ℕ) → get_or now item None ≡ Some w → IsSeatTaken items before
  seat_taken w has = record {
    place = place;
    within = within;
    taken = ⊎_elim (λ c. inr c) (λ out. inl (w, sym (front.kept item out) ∙ has)) (in_or_out (take place items) item);
  }

  module _ (below : item < length now) (free : get_or now item None ≡ None) where
    out : Contains (take place items) item → ⊥
    out c = let has = front.seated item c in let none = free in absurd cc

    step : take (place + 1) items ≡ take place items ++ item ∷ []
    step = take_more items place 0 within

    at_front : (p : ℕ) → p < place → get_or (take place items ++ item ∷ []) p 0 ≡ get_or (take place items) p 0
    at_front p l = get_or_append_left (take place items) (item ∷ []) 0 p (omega (arith, long, l))

    at_last : get_or (take place items ++ item ∷ []) place 0 ≡ item
    at_last = subst (λ k. get_or (take place items ++ item ∷ []) k 0 ≡ item) long (get_or-append_seam (take place items) item [] 0)

    -- it is seated too
    pub one_seated : AreSeated (seating (take (place + 1) items) wave before (set now item (Some wave)))
    one_seated = subst (λ l. AreSeated (seating l wave before (set now item (Some wave)))) (sym step) (record {
      count = length-set now item (Some wave) ∙ front.count;
      free = λ p l. ⊎_elim
          (λ lower. subst (λ i. get_or before i None ≡ None) (sym (at_front p lower)) (front.free p (omega (arith, long, lower))))
          (λ up.
          let here : p ≡ place = omega (arith, up, l, length-append (take place items) (item ∷ []), long) in
          subst (λ i. get_or before i None ≡ None) (sym (ap (λ k. get_or (take place items ++ item ∷ []) k 0) here ∙ at_last))
          (sym (front.kept item out) ∙ free))
          (cases_lt p place);
      once = λ p l. ⊎_elim
          (λ lower c.
          let earlier : take p (take place items ++ item ∷ []) ≡ take p (take place items) =
          take-append-le p (take place items) (item ∷ []) (omega (arith, long, lower)) in
          front.once p (omega (arith, long, lower)) (subst (Contains (take p (take place items))) (at_front p lower)
          (subst (λ xs. Contains xs (get_or (take place items ++ item ∷ []) p 0)) earlier c)))
          (λ up c.
          let here : p ≡ place = omega (arith, up, l, length-append (take place items) (item ∷ []), long) in
          let whole : take p (take place items ++ item ∷ []) ≡ take place items =
          ap (λ k. take k (take place items ++ item ∷ [])) (here ∙ sym long) ∙ take-append_seam (take place items) (item ∷ []) in
          out (subst (Contains (take place items)) (ap (λ k. get_or (take place items ++ item ∷ []) k 0) here ∙ at_last)
          (subst (λ xs. Contains xs (get_or (take place items ++ item ∷ []) p 0)) whole c)))
          (cases_lt p place);
      seated = λ i c. ⊎_elim
          (λ old. ⊎_elim
          (λ (e : i ≡ item). absurd (out (subst (Contains (take place items)) e old)))
          (λ apart. get_or-set_other now item i (Some wave) None apart ∙ front.seated i old)
          (cases_eq i item))
          (λ new. let e : item ≡ i = only item i new in subst (λ k. get_or (set now item (Some wave)) k None ≡ Some wave) e
          (get_or-set_same now item (Some wave) None below))
          (Contains-append_cases (take place items) (item ∷ []) i c);
      kept = λ i no.
          let apart : i ≡ item → ⊥ =
          λ e. no (subst (Contains (take place items ++ item ∷ [])) (sym e)
          (Contains-append_right (take place items) (item ∷ []) item (Contains-first item []))) in
          get_or-set_other now item i (Some wave) None apart
          ∙ front.kept i (λ c. no (Contains-append_left (take place items) (item ∷ []) i c));
    })
      where
        only : (x i : ℕ) → Contains (x ∷ []) i → x ≡ i
        only x i c = ⊎_elim (λ e. e) (λ r. absurd (Contains-none i r)) (Contains-cases x [] i c)

-- ---- order ----

-- of the items found up to a place none stands behind a higher one, and the highest is this
pub record IsHighestOf (found : List (Option ℕ)) (n most : ℕ) : Type 0 where
  pub bound : (p a : ℕ) → p < n → get_or found p None ≡ Some a → a ≤ most
  pub held : (most ≡ 0) ⊎ ((p : ℕ) × (p < n) × (get_or found p None ≡ Some most))
  pub ascend : AscendWhereFound found n

pub none_highest : (found : List (Option ℕ)) → IsHighestOf found 0 0
none_highest found = record {
  bound = λ p a l. absurd (omega (arith, l));
  held = inl refl;
  ascend = λ p q a b before l. absurd (omega (arith, l));
}

module _ (found : List (Option ℕ)) (n most : ℕ) (h : IsHighestOf found n most) where
  -- nothing was found at the next place
  pub highest_past_none : get_or found n None ≡ None → IsHighestOf found (n + 1) most
  highest_past_none none = record {
    bound = λ p a l is. ⊎_elim (λ lower. h.bound p a lower is) (λ up. absurd (let here : p ≡ n = omega arith in
        let nothing : get_or found p None ≡ None = ap (λ k. get_or found k None) here ∙ none in cc)) (cases_lt p n);
    held = ⊎_elim inl (λ at. inr (at.0, omega (arith, at.1), at.2)) h.held;
    ascend = λ p q a b before l one other. ⊎_elim (λ lower. h.ascend p q a b before lower one other)
        (λ up. absurd (let here : q ≡ n = omega arith in
        let nothing : get_or found q None ≡ None = ap (λ k. get_or found k None) here ∙ none in cc)) (cases_lt q n);
  }

  -- a higher one, or as high
  pub highest_next : (i : ℕ) → get_or found n None ≡ Some i → most ≤ i → IsHighestOf found (n + 1) i
  highest_next i has le = record {
    bound = λ p a l is. ⊎_elim (λ lower. omega (arith, h.bound p a lower is, le)) (λ up. let same = at p a up l is in omega arith) (cases_lt p n);
    held = inr (n, omega arith, has);
    ascend = λ p q a b before l one other. ⊎_elim (λ lower. h.ascend p q a b before lower one other)
        (λ up. let same = at q b up l other in omega (arith, h.bound p a (omega (arith, before, l)) one, le)) (cases_lt q n);
  }
    where
      at : (p a : ℕ) → n ≤ p → p < n + 1 → get_or found p None ≡ Some a → a ≡ i
      at p a up l is =
          let here : n ≡ p = omega arith in
          let same : get_or found n None ≡ Some a = ap (λ k. get_or found k None) here ∙ is in
          cc

  -- a lower one
  pub descend_at : (i : ℕ) → n < length found → get_or found n None ≡ Some i → i < most → DescendSomewhere found
  descend_at i within has lower =
      ⊎_elim
      (λ (none : most ≡ 0). absurd (omega arith))
      (λ at. record {
        place = at.0;
        later = n;
        before = at.1;
        within = within;
        one = most;
        other = i;
        one_is = at.2;
        other_is = has;
        higher = lower;
      })
      h.held

-- ---- what the code tells ----

-- what words point to
abbrev pub bytes_all : List (Bor (List ℕ)) → List (List ℕ)
bytes_all words = map (λ (word : Bor (List ℕ)). word.now) words

pub found_more : (net : Network) (words : List (Bor (List ℕ))) (i : ℕ) (d : Bor (List ℕ)) (found : List (Option ℕ)) (o : Option ℕ) → i < length words →
    AllZip (IsItemFound net) (bytes_all (take i words)) found → IsItemFound net (get_or words i d).now o →
    AllZip (IsItemFound net) (bytes_all (take (i + 1) words)) (found ++ o ∷ [])
found_more net words i d found o l before here =
    subst (λ some. AllZip (IsItemFound net) some (found ++ o ∷ [])) (sym (map_more (λ (word : Bor (List ℕ)). word.now) words i d l))
    (all_zipped_more (IsItemFound net) (bytes_all (take i words)) found (get_or words i d).now o before here)

pub some_value : (o : Option ℕ) → is_some o ≡ true → (w : ℕ) × (o ≡ Some w)
some_value None t = absurd (let f : false ≡ true = t in cc)
some_value (Some w) t = (w, refl)

pub none_value : (o : Option ℕ) → is_some o ≡ false → o ≡ None
none_value None f = refl
none_value (Some w) f = absurd (let t : true ≡ false = f in cc)

-- an item is early where it is a second change whose first one isn't in a wave before
pub early_if : (ranks : List (Option ℕ)) (wave item : ℕ) (before : Bool) → item % 2 ≡ 1 →
    (before ≡ true → (v : ℕ) × (get_or ranks (item - 1) None ≡ Some v) × (v < wave)) →
    ((v : ℕ) × (get_or ranks (item - 1) None ≡ Some v) × (v < wave) → before ≡ true) →
    (not before ≡ true → IsEarlyItem ranks wave item) × (IsEarlyItem ranks wave item → not before ≡ true)
early_if ranks wave item true odd told holds = (
  λ f. absurd (let t : false ≡ true = f in cc),
  λ e.
      let v = told refl in
      let place : item - 1 ≡ 2 * e.router = omega (arith, e.is_second) in
      absurd (e.late v.0 (ap (λ k. get_or ranks k None) (sym place) ∙ v.1) v.2),
)
early_if ranks wave item false odd told holds = (
  λ f. record {
    router = item / 2;
    is_second = omega arith;
    late = λ v has l.
        let place : item - 1 ≡ 2 * (item / 2) = omega arith in
        let t : false ≡ true = holds (v, ap (λ k. get_or ranks k None) place ∙ has, l) in
        cc;
  },
  λ e. refl,
)
