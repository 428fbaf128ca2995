-- What a wave is cut into.
use Rattle.std.proofs.Common.{◌≡◌, ℕ, zero, suc, ◌+◌, ◌-◌, ◌*◌, ◌/◌, ◌<◌, ◌≤◌, min, List, [], ◌∷◌, ◌++◌, length, get_or, take, drop, Contains}
use Rattle.std.proofs.Common.{arith, sym, ap, subst, ◌∙◌, inl, inr}
use Rattle.std.specs.Fork.{slice_chunk}
use Rattle.std.specs.Int.{div_ceil}
use Rattle.std.specs.List.{flat_map}
use Rattle.std.specs.List.Sorted.{IsStrictlyIncreasing}
use Rattle.std.proofs.Math.Nat.{le-mul_of_pos_right, mul-le-mul_right}
use Rattle.std.proofs.Math.Seq.{take-add}
use Rattle.std.proofs.lemmas.Bool.{cases_lt}
use Rattle.std.proofs.lemmas.Grind.{div_ceil_times, flat_map-append}
use Rattle.std.proofs.lemmas.List.{append-nil, get_or-drop, get_or-map, get_or-take, get_or_past, length-drop, length-map, length-take, take_all}
use Rattle.std.proofs.lemmas.List.Folds.{flat_map-map}
use Rattle.std.proofs.lemmas.List.FromFn.{length-range_with_len, get_or-range_with_len}
use Rattle.std.proofs.lemmas.Nat.{div-mul-add}
use Rattle.net_model.proofs.Members.{Contains-none}
use Rattle.order_core.specs.Rankings.{numbers_below}
use Rattle.order_core.proofs.WaveLists.{numbers_more}
use Rattle.step_scripts.specs.WaveFiles.{all_in, wave_at}
use Rattle.split_waves.specs.Cuts.{AreCutsOf, cuts_of}

-- k times as many and once more
times_more : (k most : ℕ) → (k + 1) * most ≡ k * most + most
times_more k most = omega arith

-- the first k cuts are the first routers
front_of : (most : ℕ) (wave : List ℕ) (k : ℕ) → flat_map (slice_chunk wave most) (numbers_below k) ≡ take (k * most) wave
front_of most wave zero = let e : 0 * most ≡ 0 = omega arith in ap (λ n. take n wave) (sym e)
front_of most wave (suc k) =
    let e : suc k ≡ k + 1 = omega arith in
    ap (λ n. flat_map (slice_chunk wave most) (numbers_below n)) e
    ∙ ap (flat_map (slice_chunk wave most)) (numbers_more k)
    ∙ flat_map-append (slice_chunk wave most) (numbers_below k) (k ∷ [])
    ∙ ap (λ l. flat_map (slice_chunk wave most) (numbers_below k) ++ l) (append-nil (slice_chunk wave most k))
    ∙ ap (λ l. l ++ slice_chunk wave most k) (front_of most wave k)
    ∙ sym (take-add (k * most) most wave)
    ∙ ap (λ n. take n wave) (sym (times_more k most) ∙ ap (λ n. n * most) (sym e))

-- a router of cut k, at its place in the wave
pub record IsPlaceInCut (most : ℕ) (wave : List ℕ) (k u : ℕ) : Type 0 where
  pub place : ℕ
  pub within : place < length wave
  pub router : get_or wave place u ≡ u
  pub cut : place / most ≡ k

module _ (most : ℕ) (wave : List ℕ) (some : 0 < most) where
  abbrev count : ℕ
  count = div_ceil (length wave) most

  pub cuts_long : length (cuts_of most wave) ≡ count
  cuts_long = length-map (numbers_below count) (slice_chunk wave most) ∙ length-range_with_len 0 count

  pub cut_there : (k : ℕ) → k < count → wave_at (cuts_of most wave) k ≡ slice_chunk wave most k
  cut_there k below =
      let same : get_or (numbers_below count) k 0 ≡ k = omega (arith, get_or-range_with_len 0 count k 0 below) in
      get_or-map (slice_chunk wave most) (numbers_below count) k 0 [] (subst (λ n. k < n) (sym (length-range_with_len 0 count)) below)
      ∙ ap (slice_chunk wave most) same

  pub whole : all_in (cuts_of most wave) ≡ wave
  whole =
      flat_map-map (λ l. l) (slice_chunk wave most) (numbers_below count) ∙ front_of most wave count
      ∙ take_all (count * most) wave (div_ceil_times (length wave) most some).0

  -- a cut begins within the wave
  begins : (k : ℕ) → k < count → k * most < length wave
  begins k below =
      let more : (k + 1) * most ≤ count * most = mul-le-mul_right most (omega (arith, below)) in
      omega (arith, more, (div_ceil_times (length wave) most some).1, times_more k most)

  -- there are no more cuts than routers
  pub few_cuts : count ≤ length wave
  few_cuts = elim (cases_lt (length wave) count) [
    | inl more ↦ absurd (omega (arith, begins (length wave) more, le-mul_of_pos_right (length wave) some))
    | inr le ↦ le
  ]

  cut_size : (k : ℕ) → length (slice_chunk wave most k) ≡ min most (length wave - k * most)
  cut_size k = length-take most (drop (k * most) wave) ∙ ap (min most) (length-drop (k * most) wave)

  sized : (k : ℕ) → k < count → length (wave_at (cuts_of most wave) k) ≡ min most (length wave - k * most)
  sized k below = ap length (cut_there k below) ∙ cut_size k

  pub are_cuts : AreCutsOf most wave (cuts_of most wave)
  are_cuts = record {
    whole = whole;
    some = λ k below.
        let inside : k < count = omega (arith, below, cuts_long) in omega (arith, some, sized k inside, begins k inside);
    at_most = λ k below. let inside : k < count = omega (arith, below, cuts_long) in omega (arith, sized k inside);
    full = λ k below.
        let next : k + 1 < count = omega (arith, below, cuts_long) in
        omega (arith, sized k (omega (arith, next)), begins (k + 1) next, times_more k most);
  }

  -- where the routers of a cut stand in the wave
  place_at : (k j d : ℕ) → j < length (slice_chunk wave most k) → get_or (slice_chunk wave most k) j d ≡ get_or wave (k * most + j) d
  place_at k j d within =
      get_or-take most (drop (k * most) wave) j d (omega (arith, within, cut_size k)) ∙ get_or-drop (k * most) wave j d

  pub cut_ascends : (k : ℕ) → IsStrictlyIncreasing wave → IsStrictlyIncreasing (slice_chunk wave most k)
  cut_ascends k ascends j within =
      let e : k * most + (j + 1) ≡ (k * most + j) + 1 = omega arith in
      let next : k * most + j + 1 < length wave = omega (arith, within, cut_size k) in
      omega (arith, place_at k j 0 (omega (arith, within)), place_at k (j + 1) 0 within ∙ ap (λ p. get_or wave p 0) e, ascends (k * most + j) next)

  pub cut_place : (k u : ℕ) → Contains (wave_at (cuts_of most wave) k) u → IsPlaceInCut most wave k u
  cut_place k u c = elim (cases_lt k count) [
    | inl below ↦
        let among = subst (λ l. Contains l u) (cut_there k below) c in
        let j : ℕ = among.0 in
        record {
          place = k * most + j;
          within = omega (arith, among.1, cut_size k);
          router = sym (place_at k j u among.1) ∙ among.2;
          cut = div-mul-add k most j (omega (arith, among.1, cut_size k));
        }
    | inr past ↦ absurd (Contains-none u (subst (λ l. Contains l u) (get_or_past (cuts_of most wave) k [] (omega (arith, past, cuts_long))) c))
  ]
