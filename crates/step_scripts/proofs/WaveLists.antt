-- Waves of distinct routers: in which one a router stands.
use Rattle.std.proofs.lemmas.Grind.{common_steps}
use Rattle.std.proofs.Common.{◌≡◌, ◌≢◌, ℕ, zero, suc, ◌+◌, ◌<◌, List, [], ◌∷◌, ◌++◌, length, length-set, get_or, set, take, Contains, refl, sym}
use Rattle.std.proofs.Common.{Option, Some, None, MatchOption, ap, subst, ◌∙◌, inl, inr, ⊎_elim, arith}
use Rattle.std.proofs.lemmas.Bool.{cases_eq}
use Rattle.std.proofs.lemmas.Grind.{flat_map-append}
use Rattle.std.proofs.lemmas.List.Quantifiers.{all_pairs_push}
use Rattle.std.proofs.lemmas.List.{take_more, get_or_default, get_or_append_left, get_or_push, get_or-set_same, get_or-set_other}
use Rattle.std.proofs.lemmas.List.{length_push, append-nil, append_assoc}
use Rattle.std.proofs.lemmas.List.Elements.{Contains-append_left, Contains-append_right, Contains-append_cases, Contains-push, Contains-push_cases}
use Rattle.net_model.proofs.Members.{Contains-flat_map, Contains-none}
use Rattle.order_core.specs.Orders.{AreDistinct}
use Rattle.order_core.proofs.DistinctLists.{back_distinct}
use Rattle.igp_theory.proofs.OrderedLists.{pairs_across}
use Rattle.step_scripts.specs.WaveFiles.{all_in, wave_at}
use Rattle.step_scripts.specs.steps.ReadWaves.{AreNoted, IsIn, IsNoted, KnowPlaces}

-- a router of a wave stands among all
pub in_all : (seats : List (List ℕ)) (w u : ℕ) → Contains (wave_at seats w) u → Contains (all_in seats) u
in_all [] w u c = absurd (Contains-none u c)
in_all (wave ∷ seats) zero u c = Contains-append_left wave (all_in seats) u c
in_all (wave ∷ seats) (suc w) u c = Contains-append_right wave (all_in seats) u (in_all seats w u c)

-- and a router that stands among all is in a wave
pub seat_of : (seats : List (List ℕ)) (u : ℕ) → Contains (all_in seats) u → (w : ℕ) × IsIn seats u w
seat_of seats u c =
    let its = Contains-flat_map (λ wave. wave) seats u c in
    let w = its.among.0 in
    let wave : wave_at seats w ≡ its.item = get_or_default seats w [] its.item its.among.1 ∙ its.among.2 in
    (w, record { within = its.among.1; among = subst (λ l. Contains l u) (sym wave) its.inside })

-- nothing is in both
pub in_one : (front back : List ℕ) (u : ℕ) → AreDistinct (front ++ back) → Contains front u → Contains back u → ⊥
in_one front back u once c d = pairs_across (λ (v w : ℕ). v ≢ w) front back once u u c d refl

-- a router stands in one wave
pub one_wave : (seats : List (List ℕ)) (u v w : ℕ) → AreDistinct (all_in seats) → Contains (wave_at seats v) u →
    Contains (wave_at seats w) u → v ≡ w
one_wave [] u v w once c d = absurd (Contains-none u c)
one_wave (wave ∷ seats) u zero zero once c d = refl
one_wave (wave ∷ seats) u zero (suc w) once c d = absurd (in_one wave (all_in seats) u once c (in_all seats w u d))
one_wave (wave ∷ seats) u (suc v) zero once c d = absurd (in_one wave (all_in seats) u once d (in_all seats v u c))
one_wave (wave ∷ seats) u (suc v) (suc w) once c d = ap suc (one_wave seats u v w (back_distinct wave (all_in seats) once) c d)

-- one more router that isn't among them
pub distinct_more : (before routers : List ℕ) (place d : ℕ) → place < length routers → AreDistinct (before ++ take place routers) →
    (Contains (before ++ take place routers) (get_or routers place d) → ⊥) → AreDistinct (before ++ take (place + 1) routers)
distinct_more before routers place d within once none =
    let front = before ++ take place routers in
    let x = get_or routers place d in
    let step : before ++ take (place + 1) routers ≡ front ++ x ∷ [] =
    ap (λ l. before ++ l) (take_more routers place d within) ∙ sym (append_assoc before (take place routers) (x ∷ [])) in
    subst AreDistinct (sym step)
    (all_pairs_push (λ (u v : ℕ). u ≢ v) front x once (λ k e h same. none (k, h, get_or_default front k x e h ∙ same)))

-- what is noted of one more router
noted_at : (front : List ℕ) (r w u : ℕ) (before places : List (Option ℕ)) → u < length places →
    IsNoted front w (record { before = before; after = places }) u →
    IsNoted (front ++ r ∷ []) w (record { before = before; after = set places r (Some w) }) u
noted_at front r w u before places within is = elim (cases_eq u r) [
  | inl same ↦
      let at : get_or (set places r (Some w)) r None ≡ Some w =
      get_or-set_same places r (Some w) None (subst (λ (v : ℕ). v < length places) same within) in
      inl (subst (λ (v : ℕ). Contains (front ++ r ∷ []) v × (get_or (set places r (Some w)) v None ≡ Some w)) (sym same) (Contains-push front r, at))
  | inr apart ↦
      let read : get_or (set places r (Some w)) u None ≡ get_or places u None = get_or-set_other places r u (Some w) None apart in
      ⊎_elim
      (λ known. inl (Contains-append_left front (r ∷ []) u known.0, read ∙ known.1))
      (λ known. inr (λ has. ⊎_elim known.0 (λ is_r. apart (sym is_r)) (Contains-push_cases front r u has), read ∙ known.1))
      is
]

-- what is noted of routers, and of the next one
pub noted_more : (routers : List ℕ) (i d w : ℕ) (before places : List (Option ℕ)) → i < length routers →
    AreNoted (take i routers) w (record { before = before; after = places }) →
    AreNoted (take (i + 1) routers) w (record { before = before; after = set places (get_or routers i d) (Some w) })
noted_more routers i d w before places within are = record {
  count = length-set places (get_or routers i d) (Some w) ∙ are.count;
  each = λ u below.
      subst (λ (l : List ℕ). IsNoted l w (record { before = before; after = set places (get_or routers i d) (Some w) }) u)
      (sym (take_more routers i d within))
      (noted_at (take i routers) (get_or routers i d) w u before places (as_long u below) (are.each u (as_long u below)));
}
  where
    as_long : (u : ℕ) → u < length (set places (get_or routers i d) (Some w)) → u < length places
    as_long u below = omega (arith, below, length-set places (get_or routers i d) (Some w))

-- who is in a wave is in the same one of more waves
in_more : (seats : List (List ℕ)) (wave : List ℕ) (u w : ℕ) → IsIn seats u w → IsIn (seats ++ wave ∷ []) u w
in_more seats wave u w is = grind (arith, common_steps, get_or_append_left, length_push)

-- places are known of one more wave, once its routers are noted
pub places_more : (seats : List (List ℕ)) (wave : List ℕ) (before after : List (Option ℕ)) → KnowPlaces seats before →
    AreNoted wave (length seats) (record { before = before; after = after }) → KnowPlaces (seats ++ wave ∷ []) after
places_more seats wave before after known noted u within =
    ⊎_elim
    (λ here. subst place_of (sym here.1) (record {
      within = omega (arith, length_push seats wave);
      among = subst (λ (l : List ℕ). Contains l u) (sym (get_or_push seats wave [] (length seats) refl)) here.0;
    }))
    (λ away. subst place_of (sym away.1) (as_before (get_or before u None) away.0 (known u (omega (arith, noted.count, within)))))
    (noted.each u within)
  where
    place_of : Option ℕ → Type 0
    place_of found = MatchOption found (Contains (all_in (seats ++ wave ∷ [])) u → ⊥) (IsIn (seats ++ wave ∷ []) u)

    as_before : (found : Option ℕ) → (Contains wave u → ⊥) → MatchOption found (Contains (all_in seats) u → ⊥) (IsIn seats u) → place_of found
    as_before None none is = λ has.
        ⊎_elim is (λ last. none (subst (λ l. Contains l u) (append-nil wave) last))
        (Contains-append_cases (all_in seats) (wave ++ []) u (subst (λ l. Contains l u) (flat_map-append (λ l. l) seats (wave ∷ [])) has))
    as_before (Some w) none is = in_more seats wave u w is
