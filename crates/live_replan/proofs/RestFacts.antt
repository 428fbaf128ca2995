-- The waves of the rest of a migration: how they are printed, and what they are.
use Rattle.std.proofs.Common.{◌≡◌, ◌≢◌, ℕ, ◌+◌, ◌<◌, Bool, true, false, cond, Some, List, [], ◌∷◌, ◌++◌, length, get_or, map, filter, find}
use Rattle.std.proofs.Common.{All, Contains, ◌⊎◌, refl, sym, ap, subst, ◌∙◌, ⊎_elim, inl, inr, arith, append-nil}
use Rattle.std.specs.Prelude.{codes, option_to_list}
use Rattle.std.specs.List.{AllZip}
use Rattle.std.proofs.lemmas.Bool.{cases_lt}
use Rattle.std.proofs.lemmas.Grind.{flat_map-append}
use Rattle.std.proofs.lemmas.List.{append_assoc, map_push}
use Rattle.std.proofs.lemmas.List.Elements.{All-cons, All-head, All-map, All-nil, All-tail, Contains-get_or, filter-append}
use Rattle.std.proofs.lemmas.List.Folds.{flat_map-map}
use Rattle.std.proofs.lemmas.List.FromFn.{get_or-range_with_len, length-range_with_len}
use Rattle.std.proofs.lemmas.List.Kept.{AllPairs-filter}
use Rattle.net_model.proofs.Members.{Contains-cases, Contains-first, Contains-none, Contains-rest}
use Rattle.order_core.specs.Orders.{AreDistinct}
use Rattle.order_core.specs.Rankings.{IsRanking, flat_of, numbers_below, rank_of, wave_count, wave_of}
use Rattle.order_core.proofs.WaveLists.{flat_is_order, numbers_more, rank_below_count, wave_routers, wave_some}
use Rattle.igp_theory.specs.declared.phase.Phase.{Phase}
use Rattle.igp_theory.specs.declared.phase.Phase.TheVariants.{Old, Middle, New}
use Rattle.printed_lines.specs.Texts.{text_of}
use Rattle.step_scripts.specs.WaveFiles.{all_in}
use Rattle.step_scripts.specs.WavesTexts.{AreOneOfEach, named_line, wave_lines, waves_in}
use Rattle.step_scripts.proofs.TextFacts.{wave_there}
use Rattle.live_replan.specs.RestLaws.{AreRestWaves, KeepsChain, LeadWithNew}
use Rattle.live_replan.specs.RestTexts.{has_rest, is_left, rest_chain, rest_header, rest_of}

-- ---- printing ----

-- the text with one more wave
pub text_more : (names : List (List ℕ)) (start : List Phase) (ranks : List ℕ) (w : ℕ) →
    text_of (rest_header ∷ wave_lines names (map (rest_of start) (map (wave_of ranks) (numbers_below w))))
    ++ named_line names (codes "wave") (rest_of start (wave_of ranks w)) ++ 10 ∷ []
    ≡ text_of (rest_header ∷ wave_lines names (map (rest_of start) (map (wave_of ranks) (numbers_below (w + 1)))))
text_more names start ranks w =
    let waves = map (rest_of start) (map (wave_of ranks) (numbers_below w)) in
    let lines = wave_lines names waves in
    let line = named_line names (codes "wave") (rest_of start (wave_of ranks w)) in
    let more : wave_lines names (map (rest_of start) (map (wave_of ranks) (numbers_below (w + 1)))) ≡ lines ++ line ∷ [] =
    ap (λ l. wave_lines names (map (rest_of start) (map (wave_of ranks) l))) (numbers_more w)
    ∙ ap (λ l. wave_lines names (map (rest_of start) l)) (map_push (wave_of ranks) (numbers_below w) w)
    ∙ ap (wave_lines names) (map_push (rest_of start) (map (wave_of ranks) (numbers_below w)) (wave_of ranks w))
    ∙ map_push (named_line names (codes "wave")) waves (rest_of start (wave_of ranks w)) in
    append_assoc (text_of (rest_header ∷ lines)) line (10 ∷ [])
    ∙ ap (λ l. text_of (rest_header ∷ lines) ++ l) (sym (append-nil (line ++ 10 ∷ [])))
    ∙ sym (flat_map-append (λ (l : List ℕ). l ++ 10 ∷ []) (rest_header ∷ lines) (line ∷ []))
    ∙ ap (λ l. text_of (rest_header ∷ l)) (sym more)

-- ---- what passes a test ----

-- what is found is in the list and passes
pub record IsFound (p : ℕ → Bool) (xs : List ℕ) (u : ℕ) : Type 0 where
  pub among : Contains xs u
  pub passes : p u ≡ true

pub found_in : (p : ℕ → Bool) (xs : List ℕ) (u : ℕ) → find p xs ≡ Some u → IsFound p xs u
found_in p [] u is = absurd cc
found_in p (x ∷ xs) u is = by_test (p x) refl is (λ same. found_in p xs u same)
  where
    by_test : (b : Bool) → p x ≡ b → cond b (Some x) (find p xs) ≡ Some u → (find p xs ≡ Some u → IsFound p xs u) → IsFound p (x ∷ xs) u
    by_test true t same later =
        let e : x ≡ u = cc in
        let first : IsFound p (x ∷ xs) x = record { among = Contains-first x xs; passes = t } in
        subst (IsFound p (x ∷ xs)) e first
    by_test false f same later = let h = later same in record { among = Contains-rest x xs u h.among; passes = h.passes }

-- where some element passes one is found
pub some_found : (p : ℕ → Bool) (xs : List ℕ) (u : ℕ) → Contains xs u → p u ≡ true → (v : ℕ) × (find p xs ≡ Some v)
some_found p [] u c t = absurd (Contains-none u c)
some_found p (x ∷ xs) u c t = by_test (p x) refl (λ d. some_found p xs u d t)
  where
    by_test : (b : Bool) → p x ≡ b → (Contains xs u → (v : ℕ) × (find p xs ≡ Some v)) → (v : ℕ) × (cond b (Some x) (find p xs) ≡ Some v)
    by_test true first later = (x, refl)
    by_test false first later = later (⊎_elim (λ e. absurd (let same : p x ≡ p u = ap p e in cc)) (λ r. r) (Contains-cases x xs u c))

pub in_filter : (p : ℕ → Bool) (xs : List ℕ) (u : ℕ) → Contains xs u → p u ≡ true → Contains (filter p xs) u
in_filter p [] u c t = c
in_filter p (x ∷ xs) u c t = by_test (p x) refl (λ d. in_filter p xs u d t)
  where
    by_test : (b : Bool) → p x ≡ b → (Contains xs u → Contains (filter p xs) u) → Contains (cond b (x ∷ filter p xs) (filter p xs)) u
    by_test true first later =
        ⊎_elim (λ e. subst (Contains (x ∷ filter p xs)) e (Contains-first x (filter p xs)))
        (λ r. Contains-rest x (filter p xs) u (later r)) (Contains-cases x xs u c)
    by_test false first later =
        ⊎_elim (λ e. absurd (let same : p x ≡ p u = ap p e in cc)) (λ r. later r) (Contains-cases x xs u c)

pub from_filter : (p : ℕ → Bool) (xs : List ℕ) (u : ℕ) → Contains (filter p xs) u → IsFound p xs u
from_filter p [] u c = absurd (Contains-none u c)
from_filter p (x ∷ xs) u c = by_test (p x) refl c (λ d. from_filter p xs u d)
  where
    by_test : (b : Bool) → p x ≡ b → Contains (cond b (x ∷ filter p xs) (filter p xs)) u → (Contains (filter p xs) u → IsFound p xs u) →
        IsFound p (x ∷ xs) u
    by_test true t d later =
        let first : IsFound p (x ∷ xs) x = record { among = Contains-first x xs; passes = t } in
        ⊎_elim (λ e. subst (IsFound p (x ∷ xs)) e first)
        (λ r. let h = later r in let some : IsFound p (x ∷ xs) u = record { among = Contains-rest x xs u h.among; passes = h.passes } in some)
        (Contains-cases x (filter p xs) u d)
    by_test false f d later = let h = later d in record { among = Contains-rest x xs u h.among; passes = h.passes }

-- lists that are filtered one by one, end to end
filtered_all : (p : ℕ → Bool) (xss : List (List ℕ)) → all_in (map (filter p) xss) ≡ filter p (all_in xss)
filtered_all p [] = refl
filtered_all p (xs ∷ xss) = ap (λ l. filter p xs ++ l) (filtered_all p xss) ∙ sym (filter-append p xs (all_in xss))

-- a phase is New or leaves something to do
new_or_left : (phase : Phase) → (phase ≡ New) ⊎ (is_left phase ≡ true)
new_or_left Old = inr refl
new_or_left Middle = inr refl
new_or_left New = inl refl

-- ---- the law ----

waves_flat : (ranks : List ℕ) → all_in (waves_in ranks) ≡ flat_of ranks
waves_flat ranks = flat_map-map (λ wave. wave) (wave_of ranks) (numbers_below (wave_count ranks))

module _ (start : List Phase) (ranks : List ℕ) (ranking : IsRanking (length ranks) ranks) (lead : LeadWithNew start ranks) (u : ℕ) (below : u < length ranks)
    (left : has_rest start u ≡ true) where
  some_of : (k : ℕ) → k < wave_count ranks → (v : ℕ) × Contains (rest_of start (wave_of ranks k)) v
  some_of k l =
      ⊎_elim
      (λ (first : k < 1).
      let beside = lead.beside u below left in
      let rank : rank_of ranks beside.0 ≡ k = omega (arith, beside.3) in
      let some : (v : ℕ) × Contains (rest_of start (wave_of ranks k)) v =
      (beside.0, in_filter (has_rest start) (wave_of ranks k) beside.0 ((wave_routers ranks k beside.0).1 (beside.1, rank)) beside.2) in
      some)
      (λ later.
      let v : ℕ = get_or (wave_of ranks k) 0 0 in
      let among = Contains-get_or (wave_of ranks k) 0 0 (wave_some (length ranks) ranks k ranking l) in
      let at = (wave_routers ranks k v).0 among in
      let has : has_rest start v ≡ true =
      ⊎_elim (λ new. absurd (let first = lead.first v at.0 new in omega (arith, first, at.1, later))) (λ t. t) (new_or_left (get_or start v New)) in
      let some : (v : ℕ) × Contains (rest_of start (wave_of ranks k)) v = (v, in_filter (has_rest start) (wave_of ranks k) v among has) in
      some)
      (cases_lt k 1)

  -- what holds of each wave of a ranking holds of each that is printed
  each_wave : (P : List ℕ → Type 0) → ((k : ℕ) → k < wave_count ranks → P (rest_of start (wave_of ranks k))) → All P (map (rest_of start) (waves_in ranks))
  each_wave P holds =
      All-map P (rest_of start) (waves_in ranks)
      (All-map (λ wave. P (rest_of start wave)) (wave_of ranks) (numbers_below (wave_count ranks)) (λ k d l.
      let number : k < wave_count ranks = subst (λ n. k < n) (length-range_with_len 0 (wave_count ranks)) l in
      let at : k ≡ get_or (numbers_below (wave_count ranks)) k d = omega (arith, get_or-range_with_len 0 (wave_count ranks) k d number) in
      subst (λ w. P (rest_of start (wave_of ranks w))) at (holds k number)))

  some_each : All (λ (wave : List ℕ). 0 < length wave) (map (rest_of start) (waves_in ranks))
  some_each = each_wave (λ wave. 0 < length wave) (λ k l. let some = some_of k l in let c = some.1 in omega (arith, c.1))

  flat_rest : all_in (map (rest_of start) (waves_in ranks)) ≡ filter (has_rest start) (flat_of ranks)
  flat_rest = filtered_all (has_rest start) (waves_in ranks) ∙ ap (filter (has_rest start)) (waves_flat ranks)

  module _ (chain : List ℕ) (one_of : AreOneOfEach ranks chain) (keeps : KeepsChain start chain) where
    -- a chain of routers with something left to do is one of what is printed
    zip_rest : (waves : List (List ℕ)) (links : List ℕ) → AllZip (λ (wave : List ℕ) (v : ℕ). Contains wave v) waves links →
        All (λ v. has_rest start v ≡ true) links → AllZip (λ (wave : List ℕ) (v : ℕ). Contains wave v) (map (rest_of start) waves) links
    zip_rest [] [] h all = tt
    zip_rest [] (v ∷ links) h all = absurd h
    zip_rest (wave ∷ waves) [] h all = absurd h
    zip_rest (wave ∷ waves) (v ∷ links) h all = (
      in_filter (has_rest start) wave v h.0 (All-head (λ w. has_rest start w ≡ true) v links all),
      zip_rest waves links h.1 (All-tail (λ w. has_rest start w ≡ true) v links all),
    )

    -- one wave alone
    one_wave : (waves : List (List ℕ)) (v : ℕ) → AllZip (λ (wave : List ℕ) (w : ℕ). Contains wave w) waves (v ∷ []) → (wave : List ℕ) × (waves ≡ wave ∷ [])
    one_wave [] v h = absurd h
    one_wave (wave ∷ []) v h = (wave, refl)
    one_wave (wave ∷ next ∷ more) v h = absurd h.1

    count_some : 0 < wave_count ranks
    count_some = omega (arith, rank_below_count ranks (rank_of ranks 0) (Contains-get_or ranks 0 0 (omega (arith, below))))

    alone : (v : ℕ) → AreOneOfEach ranks (v ∷ []) →
        AllZip (λ (wave : List ℕ) (w : ℕ). Contains wave w) (map (rest_of start) (waves_in ranks)) (option_to_list (find (has_rest start) (wave_of ranks 0)))
    alone v one =
        let waves = one_wave (waves_in ranks) v one in
        let first : waves.0 ≡ wave_of ranks 0 = sym (ap (λ (ws : List (List ℕ)). get_or ws 0 []) waves.1) ∙ wave_there ranks 0 count_some in
        let some = some_of 0 count_some in
        let inside = from_filter (has_rest start) (wave_of ranks 0) some.0 some.1 in
        let found = some_found (has_rest start) (wave_of ranks 0) some.0 inside.among inside.passes in
        let it = found_in (has_rest start) (wave_of ranks 0) found.0 found.1 in
        subst (λ ws. AllZip (λ (wave : List ℕ) (w : ℕ). Contains wave w) (map (rest_of start) ws) (option_to_list (find (has_rest start) (wave_of ranks 0))))
        (ap (λ w. w ∷ []) (sym first) ∙ sym waves.1)
        (subst (λ o. AllZip (λ (wave : List ℕ) (w : ℕ). Contains wave w) (rest_of start (wave_of ranks 0) ∷ []) (option_to_list o)) (sym found.1)
        (in_filter (has_rest start) (wave_of ranks 0) found.0 it.among it.passes, tt))

    each_of : (links : List ℕ) → AreOneOfEach ranks links → KeepsChain start links →
        AllZip (λ (wave : List ℕ) (v : ℕ). Contains wave v) (map (rest_of start) (waves_in ranks)) (rest_chain start ranks links)
    each_of [] one keep = zip_rest (waves_in ranks) [] one (λ k d l. absurd (omega (arith, l)))
    each_of (v ∷ []) one keep = by_test (has_rest start v) refl
      where
        by_test : (b : Bool) → has_rest start v ≡ b →
            AllZip (λ (wave : List ℕ) (w : ℕ). Contains wave w) (map (rest_of start) (waves_in ranks))
            (cond b (v ∷ []) (option_to_list (find (has_rest start) (wave_of ranks 0))))
        by_test true t = zip_rest (waves_in ranks) (v ∷ []) one (All-cons (λ w. has_rest start w ≡ true) v [] t (All-nil (λ w. has_rest start w ≡ true)))
        by_test false f = alone v one
    each_of (v ∷ w ∷ links) one keep = zip_rest (waves_in ranks) (v ∷ w ∷ links) one (keep (omega arith))

    pub rest_waves : AreRestWaves start ranks chain
    rest_waves = record {
      some = some_each;
      once = subst AreDistinct (sym flat_rest) (AllPairs-filter (λ v w. v ≢ w) (has_rest start) (flat_of ranks) (flat_is_order ranks).once);
      all = λ v. (
        λ c.
            let h = from_filter (has_rest start) (flat_of ranks) v (subst (λ l. Contains l v) flat_rest c) in
            (((flat_is_order ranks).all v).0 h.among, h.passes),
        λ h. subst (λ l. Contains l v) (sym flat_rest) (in_filter (has_rest start) (flat_of ranks) v (((flat_is_order ranks).all v).1 h.0) h.1),
      );
      each = each_of chain one_of keeps;
    }
