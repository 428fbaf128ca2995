-- The waves of a ranking, each cut: end to end they are its flat run, and what has them as its waves refines it.
use Rattle.std.proofs.Common.{◌≡◌, ℕ, ◌+◌, ◌-◌, ◌<◌, ◌≤◌, List, [], ◌∷◌, ◌++◌, length, get_or, map, Contains, arith, refl, sym, ap, subst, ◌∙◌, inl, inr}
use Rattle.std.specs.Int.{div_ceil}
use Rattle.std.specs.List.{flat_map}
use Rattle.std.specs.List.Sorted.{IsStrictlyIncreasing}
use Rattle.std.proofs.lemmas.Bool.{cases_lt}
use Rattle.std.proofs.lemmas.Grind.{flat_map-append}
use Rattle.std.proofs.lemmas.List.{append-nil, get_or_append_left, get_or-append_right, get_or_default, length-append, map_push}
use Rattle.std.proofs.lemmas.List.Elements.{Contains-get_or}
use Rattle.std.proofs.lemmas.List.Folds.{flat_map-map}
use Rattle.net_model.proofs.Members.{Contains-flat_map, Contains-map, Contains-none}
use Rattle.order_core.specs.Orders.{AreDistinct, IsBefore, IsOrder}
use Rattle.order_core.specs.Rankings.{IsRanking, flat_of, numbers_below, rank_of, wave_count, wave_of, waves_before}
use Rattle.order_core.proofs.WaveLists.{flat_is_order, lower_before, numbers_more, rank_below_count, routers_before, wave_ascends, wave_routers, waves_more}
use Rattle.step_scripts.specs.WaveFiles.{all_in, wave_at}
use Rattle.step_scripts.specs.WavesTexts.{waves_in}
use Rattle.step_scripts.proofs.TextFacts.{wave_there, waves_long}
use Rattle.step_scripts.proofs.WaveLists.{in_all}
use Rattle.split_waves.specs.Cuts.{AreSmallerWaves, CutsRefine, cut_waves, cuts_of}
use Rattle.split_waves.specs.steps.Seats.{AreRankedByCuts, AreSplit, cuts_before, seating}
use Rattle.split_waves.proofs.Cuts.{are_cuts, cut_ascends, cut_place, cut_there, cuts_long, few_cuts, whole}
use Rattle.split_waves.proofs.DistinctWaves.{AreDistinctWaves, ranking, waves_are}

-- the cuts of waves, end to end, are the waves end to end
all_cut : (most : ℕ) (waves : List (List ℕ)) → 0 < most → all_in (flat_map (cuts_of most) waves) ≡ all_in waves
all_cut most [] some = refl
all_cut most (wave ∷ waves) some =
    flat_map-append (λ l. l) (cuts_of most wave) (flat_map (cuts_of most) waves)
    ∙ ap (λ l. l ++ all_in (flat_map (cuts_of most) waves)) (whole most wave some)
    ∙ ap (λ l. wave ++ l) (all_cut most waves some)

-- a list is a cut of one wave of a ranking
record IsCutOf (most : ℕ) (ranks cut : List ℕ) : Type 0 where
  wave : ℕ
  number : ℕ
  below : number < length (cuts_of most (wave_of ranks wave))
  is : cut ≡ wave_at (cuts_of most (wave_of ranks wave)) number

module _ (most : ℕ) (ranks : List ℕ) (some : 0 < most) where
  abbrev cuts : List (List ℕ)
  cuts = cut_waves most ranks

  all_flat : all_in cuts ≡ flat_of ranks
  all_flat = all_cut most (waves_in ranks) some ∙ flat_map-map (λ l. l) (wave_of ranks) (numbers_below (wave_count ranks))

  cut_of : (k : ℕ) → k < length cuts → IsCutOf most ranks (wave_at cuts k)
  cut_of k within =
      let cut : List ℕ = wave_at cuts k in
      let its = Contains-flat_map (cuts_of most) (waves_in ranks) cut (Contains-get_or cuts k [] within) in
      let w = Contains-map (wave_of ranks) (numbers_below (wave_count ranks)) its.item its.among in
      let inside : Contains (cuts_of most (wave_of ranks w.item)) cut = subst (λ wave. Contains (cuts_of most wave) cut) (sym w.gives) its.inside in
      record {
        wave = w.item;
        number = inside.0;
        below = inside.1;
        is = sym inside.2 ∙ get_or_default (cuts_of most (wave_of ranks w.item)) inside.0 cut [] inside.1;
      }

  cut_some : (k : ℕ) → k < length cuts → 0 < length (wave_at cuts k)
  cut_some k within =
      let c = cut_of k within in
      subst (λ l. 0 < length l) (sym c.is) ((are_cuts most (wave_of ranks c.wave) some).some c.number c.below)

  cut_at_most : (k : ℕ) → k < length cuts → length (wave_at cuts k) ≤ most
  cut_at_most k within =
      let c = cut_of k within in
      subst (λ l. length l ≤ most) (sym c.is) ((are_cuts most (wave_of ranks c.wave) some).at_most c.number c.below)

  ascends : (k : ℕ) → k < length cuts → IsStrictlyIncreasing (wave_at cuts k)
  ascends k within =
      let c = cut_of k within in
      let wave = wave_of ranks c.wave in
      subst IsStrictlyIncreasing (sym (c.is ∙ cut_there most wave some c.number (omega (arith, c.below, cuts_long most wave some))))
      (cut_ascends most wave some c.number (wave_ascends ranks c.wave))

  -- the routers of a cut are of one wave
  cut_rank : (k u : ℕ) (within : k < length cuts) → Contains (wave_at cuts k) u → rank_of ranks u ≡ (cut_of k within).wave
  cut_rank k u within among =
      let c = cut_of k within in
      let place = cut_place most (wave_of ranks c.wave) some c.number u (subst (λ l. Contains l u) c.is among) in
      ((wave_routers ranks c.wave u).0 (place.place, place.within, place.router)).1

-- of two routers of an order each can't stand before the other
not_both : (order : List ℕ) (u v : ℕ) → AreDistinct order → IsBefore order u v → IsBefore order v u → ⊥
not_both order u v once one other = elim (cases_lt other.place one.later) [
  | inl lower ↦ once other.place one.later 0 lower one.within (other.first ∙ sym one.second)
  | inr higher ↦ once one.place other.later 0 (omega (arith, higher, one.earlier, other.earlier)) other.within (one.first ∙ sym other.second)
]

module _ (n most : ℕ) (ranks split : List ℕ) (some : 0 < most) (ranking_is : IsRanking n ranks) (its : IsRanking n split)
    (waves : waves_in split ≡ cut_waves most ranks) where
  long : length split ≡ length ranks
  long = its.each ∙ sym ranking_is.each

  flats : flat_of split ≡ flat_of ranks
  flats = sym (flat_map-map (λ l. l) (wave_of split) (numbers_below (wave_count split))) ∙ ap all_in waves ∙ all_flat most ranks some

  -- each router stands in the cut of its rank
  own_cut : (u : ℕ) → u < length split → Contains (wave_at (cut_waves most ranks) (rank_of split u)) u
  own_cut u u_in =
      let below = rank_below_count split (rank_of split u) (Contains-get_or split u 0 u_in) in
      subst (λ l. Contains (wave_at l (rank_of split u)) u) waves
      (subst (λ l. Contains l u) (sym (wave_there split (rank_of split u) below)) ((wave_routers split (rank_of split u) u).1 (u_in, refl)))

  keeps : (u v : ℕ) → u < length ranks → v < length ranks → rank_of ranks u < rank_of ranks v → rank_of split u < rank_of split v
  keeps u v u_in v_in lower = elim (cases_lt (rank_of split u) (rank_of split v)) [
    | inl kept ↦ kept
    | inr not_kept ↦ absurd (elim (cases_lt (rank_of split v) (rank_of split u)) [
      | inl after ↦
          not_both (flat_of ranks) u v (flat_is_order ranks).once (lower_before ranks u v u_in v_in (inl lower))
          (subst (λ l. IsBefore l v u) flats (lower_before split v u (omega (arith, v_in, long)) (omega (arith, u_in, long)) (inl after)))
      | inr not_after ↦
          let same : rank_of split u ≡ rank_of split v = omega (arith, not_kept, not_after) in
          let below = rank_below_count split (rank_of split v) (Contains-get_or split v 0 (omega (arith, v_in, long))) in
          let within : rank_of split v < length (cut_waves most ranks) =
          subst (λ l. rank_of split v < length l) waves (omega (arith, below, waves_long split)) in
          let one = cut_rank most ranks some (rank_of split v) u within
          (subst (λ k. Contains (wave_at (cut_waves most ranks) k) u) same (own_cut u (omega (arith, u_in, long)))) in
          let other = cut_rank most ranks some (rank_of split v) v within (own_cut v (omega (arith, v_in, long))) in
          omega (arith, lower, one, other)
    ])
  ]

  smaller : AreSmallerWaves most ranks split
  smaller = record {
    refines = record { each = long; keeps = keeps };
    at_most = λ w within.
        subst (λ l. length (wave_at l w) ≤ most) (sym waves) (cut_at_most most ranks some w (subst (λ l. w < length l) waves within));
  }

pub cuts_refine : CutsRefine
cuts_refine = record { cuts = λ most wave some. are_cuts most wave some; lists = smaller }

-- Ranked wave by wave

-- what is added by one wave more
cuts_more : (most : ℕ) (ranks : List ℕ) (w : ℕ) → cuts_before most ranks (w + 1) ≡ cuts_before most ranks w ++ cuts_of most (wave_of ranks w)
cuts_more most ranks w =
    ap (λ l. flat_map (cuts_of most) (map (wave_of ranks) l)) (numbers_more w)
    ∙ ap (flat_map (cuts_of most)) (map_push (wave_of ranks) (numbers_below w) w)
    ∙ flat_map-append (cuts_of most) (map (wave_of ranks) (numbers_below w)) (wave_of ranks w ∷ [])
    ∙ ap (λ l. cuts_before most ranks w ++ l) (append-nil (cuts_of most (wave_of ranks w)))

module _ (most : ℕ) (ranks : List ℕ) (some : 0 < most) where
  pub split_none : AreSplit most ranks 0 0 ranks
  split_none = record { each = refl; counted = refl; few = omega arith; seats = λ k u c. absurd (Contains-none u c) }

  module _ (w count : ℕ) (split after : List ℕ) (were : AreSplit most ranks w count split)
      (are : AreRankedByCuts most count (wave_of ranks w) (seating split after)) where
    abbrev wave : List ℕ
    wave = wave_of ranks w

    abbrev earlier : List (List ℕ)
    earlier = cuts_before most ranks w

    -- a router of an earlier wave isn't of this one
    not_here : (k u : ℕ) → Contains (wave_at earlier k) u → Contains wave u → ⊥
    not_here k u c here =
        let before : Contains (waves_before ranks w) u =
        subst (λ l. Contains l u) (all_cut most (map (wave_of ranks) (numbers_below w)) some ∙ flat_map-map (λ l. l) (wave_of ranks) (numbers_below w))
        (in_all earlier k u c) in
        omega (arith, ((routers_before ranks w u).0 before).1, ((wave_routers ranks w u).0 here).1)

    seat : (k u : ℕ) → Contains (wave_at (earlier ++ cuts_of most wave) k) u → rank_of after u ≡ k
    seat k u c = elim (cases_lt k (length earlier)) [
      | inl below ↦
          let was = subst (λ l. Contains l u) (get_or_append_left earlier (cuts_of most wave) [] k below) c in
          are.others u (not_here k u was) ∙ were.seats k u was
      | inr past ↦
          let at = get_or-append_right earlier (cuts_of most wave) count k [] (sym were.counted) (omega (arith, past, were.counted)) in
          let place = cut_place most wave some (k - count) u (subst (λ l. Contains l u) at c) in
          let router : get_or wave place.place 0 ≡ u = get_or_default wave place.place 0 u place.within ∙ place.router in
          sym (ap (rank_of after) router) ∙ are.each place.place place.within ∙ ap (λ j. count + j) place.cut ∙ omega (arith, past, were.counted)
    ]

    pub split_more : AreSplit most ranks (w + 1) (count + div_ceil (length wave) most) after
    split_more = record {
      each = are.count ∙ were.each;
      counted = omega (arith, were.counted, cuts_long most wave some, length-append earlier (cuts_of most wave), ap length (cuts_more most ranks w));
      few = omega (arith, were.few, few_cuts most wave some, length-append (waves_before ranks w) wave, ap length (waves_more ranks w));
      seats = λ k u c. seat k u (subst (λ l. Contains (wave_at l k) u) (cuts_more most ranks w) c);
    }

  -- the ranks by the cuts of all waves
  module _ (w count : ℕ) (split : List ℕ) (all : w ≡ wave_count ranks) (are : AreSplit most ranks w count split) where
    distinct : AreDistinctWaves (cut_waves most ranks) split
    distinct = record {
      once = subst (IsOrder (length split)) (sym (all_flat most ranks some)) (subst (λ m. IsOrder m (flat_of ranks)) (sym are.each) (flat_is_order ranks));
      some = cut_some most ranks some;
      ascend = ascends most ranks some;
      seats = subst (λ v. (k u : ℕ) → Contains (wave_at (cuts_before most ranks v) k) u → rank_of split u ≡ k) all are.seats;
    }

    pub split_ranking : IsRanking (length split) split
    split_ranking = ranking (cut_waves most ranks) split distinct

    pub split_waves_are : waves_in split ≡ cut_waves most ranks
    split_waves_are = waves_are (cut_waves most ranks) split distinct
