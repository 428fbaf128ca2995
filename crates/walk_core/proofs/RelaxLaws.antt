-- Relaxing keeps what is known of distances, and ends at the least costs.
use Rattle.std.proofs.lemmas.Grind.{common_steps}
use Rattle.std.proofs.Common.{◌≡◌, ◌≢◌, ℕ, ◌+◌, ◌^◌, ◌<◌, ◌≤◌, zero, suc, Bool, true, false, ◌||◌, cond, IsTrue, ◌↔◌, List, [], ◌∷◌, ◌++◌, Option, Some, None}
use Rattle.std.proofs.Common.{length, length-set, set, replicate, get_or-set_same, get_or-set_other, refl, sym, ◌∙◌, ap, subst, arith, inl, inr, ◌⊎◌}
use Rattle.std.specs.Bool.{OnFalse}
use Rattle.std.proofs.lemmas.Bool.{cases_eq}
use Rattle.std.proofs.lemmas.List.{length-replicate}
use borrow.Author.Count.{below_more}
use Rattle.walk_core.specs.Walks.{Arcs, Leg, Walks, walk_cost, LeastCost}
use Rattle.walk_core.specs.Distances.{distance_at}
use Rattle.walk_core.specs.steps.Rows.{AreLeastDistances}
use Rattle.walk_core.proofs.WalkLaws.{least_cost_from, least_cost_unique}
use Rattle.walk_core.specs.steps.Relaxing.{WalkCosts, AreWalked, IsAtMost, IsTightFrom, missing, HaveRoom, weight_of, total_weight, Relaxes}

-- a walk goes on over one more arc
pub walks_on : (arc : Arcs) (u : ℕ) (legs : List Leg) (v : ℕ) (leg : Leg) → Walks arc u legs v →
    arc v leg.to leg.cost → Walks arc u (legs ++ leg ∷ []) leg.to
walks_on arc u [] v last leads over = let P : ℕ → Type 0 = λ n. arc n last.to last.cost in (subst P (sym leads) over, refl)
walks_on arc u (leg ∷ legs) v last leads over = (leads.0, walks_on arc leg.to legs v last (leads.1) over)

pub walk_cost_on : (legs : List Leg) (leg : Leg) → walk_cost (legs ++ leg ∷ []) ≡ walk_cost legs + leg.cost
walk_cost_on [] last = omega arith
walk_cost_on (leg ∷ legs) last = omega (arith, walk_cost_on legs last)

pub walk_costs_on : {arc : Arcs} {u v w d c : ℕ} → WalkCosts arc u v d → arc v w c → WalkCosts arc u w (d + c)
walk_costs_on {arc} {u} {v} {w} {d} {c} walk over =
    let last : Leg = record { to = w; cost = c } in
    record {
      legs = walk.legs ++ last ∷ [];
      leads = walks_on arc u walk.legs v last walk.leads over;
      costs =
          let e : walk_cost walk.legs ≡ d = walk.costs in
          omega (arith, walk_cost_on walk.legs last);
    }

-- a distance that falls weighs less
pub total_weight_falls : (ds : List (Option ℕ)) (v x : ℕ) → v < length ds →
    x < weight_of (distance_at ds v) → total_weight (set ds v (Some x)) < total_weight ds
total_weight_falls [] v x in_range falls = absurd (omega arith)
total_weight_falls (d ∷ ds) zero x in_range falls = omega arith
total_weight_falls (d ∷ ds) (suc v) x in_range falls = omega (arith, total_weight_falls ds v x (omega arith) falls)

-- a vertex without a distance that gets one is no longer missing
pub missing_found : (ds : List (Option ℕ)) (v x : ℕ) → v < length ds → distance_at ds v ≡ None → missing (set ds v (Some x)) + 1 ≡ missing ds
missing_found [] v x in_range none = absurd (omega arith)
missing_found (None ∷ ds) zero x in_range none = omega arith
missing_found (Some d ∷ ds) zero x in_range none = absurd (cc)
missing_found (None ∷ ds) (suc v) x in_range none = omega (arith, missing_found ds v x (omega arith) none)
missing_found (Some d ∷ ds) (suc v) x in_range none = missing_found ds v x (omega arith) none

-- a distance that changes leaves as many missing
pub missing_changed : (ds : List (Option ℕ)) (v x y : ℕ) → v < length ds → distance_at ds v ≡ Some y → missing (set ds v (Some x)) ≡ missing ds
missing_changed [] v x y in_range some = absurd (omega arith)
missing_changed (None ∷ ds) zero x y in_range some = absurd (cc)
missing_changed (Some d ∷ ds) zero x y in_range some = refl
missing_changed (None ∷ ds) (suc v) x y in_range some = omega (arith, missing_changed ds v x y (omega arith) some)
missing_changed (Some d ∷ ds) (suc v) x y in_range some = missing_changed ds v x y (omega arith) some

-- of the distances after v got one, one is v's or it was there before
pub distance_after : (ds : List (Option ℕ)) (v x w d : ℕ) → v < length ds → distance_at (set ds v (Some x)) w ≡ Some d →
    ((w ≡ v) × (d ≡ x)) ⊎ ((w ≢ v) × (distance_at ds w ≡ Some d))
distance_after ds v x w d in_range is = grind (arith, common_steps, cases_eq)

-- a distance that was not lower than what an arc offers is at most that
pub is_at_most : (distance : Option ℕ) (most : ℕ) → (most < weight_of distance → ⊥) → most < 2 ^ 64 → IsAtMost distance most
is_at_most None most no_less fits = absurd (no_less fits)
is_at_most (Some d) most no_less fits = record { value = d; is = refl; below = omega arith }

-- what was at most this is so when a distance fell
pub at_most_after : (ds : List (Option ℕ)) (v x w most : ℕ) → v < length ds → x < weight_of (distance_at ds v) →
    IsAtMost (distance_at ds w) most → IsAtMost (distance_at (set ds v (Some x)) w) most
at_most_after ds v x w most in_range falls is = grind (arith, common_steps, cases_eq)

-- nothing is relaxed
pub relaxes_none : {arc : Arcs} {ds : List (Option ℕ)} → HaveRoom ds → Relaxes arc ds ds false
relaxes_none room = grind (arith, common_steps)

-- a distance is missing or it is there
pub distance_cases : (distance : Option ℕ) → (distance ≡ None) ⊎ ((y : ℕ) × (distance ≡ Some y))
distance_cases None = inl refl
distance_cases (Some y) = inr (y, refl)

-- no more are missing than before
pub missing_after : (ds : List (Option ℕ)) (v x : ℕ) → v < length ds → missing (set ds v (Some x)) ≤ missing ds
missing_after ds v x in_range = grind (arith, common_steps, distance_cases, missing_changed, missing_found)

-- the cost over one more arc is less than the greatest number of 64 bits
pub sum_fits : (ds : List (Option ℕ)) (u d c : ℕ) → HaveRoom ds → distance_at ds u ≡ Some d → c < 2 ^ 32 → d + c + 1 < 2 ^ 64
sum_fits ds u d c room near small = let here = room.room u d near in omega (arith, room.few)

-- there is room after an arc was relaxed
pub room_after : (ds : List (Option ℕ)) (u v c d : ℕ) → HaveRoom ds → c < 2 ^ 32 → v < length ds →
    distance_at ds u ≡ Some d → d + c < weight_of (distance_at ds v) → HaveRoom (set ds v (Some (d + c)))
room_after ds u v c d room small in_range near falls = record {
  few = rw (length-set ds v (Some (d + c))) room.few;
  room = λ w e is.
      let as_long : length (set ds v (Some (d + c))) ≡ length ds = length-set ds v (Some (d + c)) in
      let here = room.room u d near in
      elim (distance_after ds v (d + c) w e in_range is) [
        | inl found ↦
            let cost : e ≡ d + c = found.1 in
            elim (distance_cases (distance_at ds v)) [
              | inl none ↦
                  let one_less = missing_found ds v (d + c) in_range none in
                  omega arith
              | inr some ↦
                  let as_many = missing_changed ds v (d + c) some.0 in_range some.1 in
                  let lower : d + c < some.0 = rw (some.1) at falls in
                  let there = room.room v some.0 some.1 in
                  omega arith
            ]
        | inr other ↦
            let there = room.room w e (other.1) in
            let no_more = missing_after ds v (d + c) in_range in
            omega arith
      ];
}

-- the distances after an arc was relaxed are costs of walks
pub walked_after : (arc : Arcs) (root : ℕ) (ds : List (Option ℕ)) (u v c d : ℕ) → arc u v c →
    v < length ds → distance_at ds u ≡ Some d → d + c < weight_of (distance_at ds v) → AreWalked arc root ds → AreWalked arc root (set ds v (Some (d + c)))
walked_after arc root ds u v c d over in_range near falls walked = record {
  start =
      let apart : root ≢ v = λ same.
      let at_v : distance_at ds v ≡ Some 0 = rw same at walked.start in
      let none : d + c < 0 = rw at_v at falls in
      omega arith in
      get_or-set_other ds v root (Some (d + c)) None apart ∙ walked.start;
  walked = λ w e is.
      elim (distance_after ds v (d + c) w e in_range is) [
        | inl found ↦
            let walk : WalkCosts arc root v (d + c) = walk_costs_on (walked.walked u d near) over in
            let walk_at_w : WalkCosts arc root w (d + c) = rw (found.0) walk in
            rw (found.1) walk_at_w
        | inr other ↦ walked.walked w e (other.1)
      ];
}

-- one arc that undercuts the distance of its end is relaxed
pub relaxes_arc : (arc : Arcs) (ds : List (Option ℕ)) (u v c d : ℕ) → HaveRoom ds → arc u v c →
    c < 2 ^ 32 → v < length ds → distance_at ds u ≡ Some d → d + c < weight_of (distance_at ds v) → Relaxes arc ds (set ds v (Some (d + c))) true
relaxes_arc arc ds u v c d room over small in_range near falls = record {
  room = room_after ds u v c d room small in_range near falls;
  walked = λ root walked. walked_after arc root ds u v c d over in_range near falls walked;
  falls = total_weight_falls ds v (d + c) in_range falls;
  same = tt;
}

-- the distance of u stays when an arc from u is relaxed
pub near_after : (ds : List (Option ℕ)) (u v c d : ℕ) → v < length ds → distance_at ds u ≡ Some d → d + c < weight_of (distance_at ds v) →
    distance_at (set ds v (Some (d + c))) u ≡ Some d
near_after ds u v c d in_range near falls = grind (arith, common_steps)

-- relaxing goes on
pub relaxes_on : {arc : Arcs} {before now after : List (Option ℕ)} (fell more : Bool) →
    Relaxes arc before now fell → Relaxes arc now after more → Relaxes arc before after (fell || more)
relaxes_on true true one other = record {
  room = other.room;
  walked = λ root walked. other.walked root (one.walked root walked);
  falls = omega arith;
  same = tt;
}
relaxes_on {arc} {before} {now} {after} false true one other = record {
  room = other.room;
  walked = λ root walked. other.walked root (one.walked root walked);
  falls = let same : now ≡ before = one.same in omega (arith, ap total_weight same);
  same = tt;
}
relaxes_on {arc} {before} {now} {after} true false one other = record {
  room = other.room;
  walked = λ root walked. other.walked root (one.walked root walked);
  falls = let same : after ≡ now = other.same in omega (arith, ap total_weight same);
  same = tt;
}
relaxes_on false false one other = record {
  room = other.room;
  walked = λ root walked. other.walked root (one.walked root walked);
  falls = tt;
  same = other.same ∙ one.same;
}

-- what one step of relaxing leaves: whether the arc undercut its end or not
pub record IsRelaxed (arc : Arcs) (now after : List (Option ℕ)) (u v c d : ℕ) (fell : Bool) : Type 0 where
  pub relaxes : Relaxes arc now after fell
  pub lower : (w most : ℕ) → IsAtMost (distance_at now w) most → IsAtMost (distance_at after w) most
  pub near_is : distance_at after u ≡ Some d
  pub tight : IsAtMost (distance_at after v) (d + c)

pub relaxed : (arc : Arcs) (now after : List (Option ℕ)) (u v c d : ℕ) (fell : Bool) → HaveRoom now →
    arc u v c → c < 2 ^ 32 → v < length now → distance_at now u ≡ Some d → (IsTrue fell ↔ (d + c < weight_of (distance_at now v))) →
    after ≡ cond fell (set now v (Some (d + c))) now → IsRelaxed arc now after u v c d fell
relaxed arc now after u v c d true room over small in_range near falls is =
    let P : List (Option ℕ) → Type 0 = λ ds. IsRelaxed arc now ds u v c d true in
    let lower : d + c < weight_of (distance_at now v) = falls.0 refl in
    subst P (sym is) (record {
      relaxes = relaxes_arc arc now u v c d room over small in_range near lower;
      lower = λ w most is. at_most_after now v (d + c) w most in_range lower is;
      near_is = near_after now u v c d in_range near lower;
      tight = record { value = d + c; is = get_or-set_same now v (Some (d + c)) None in_range; below = omega arith };
    })
relaxed arc now after u v c d false room over small in_range near falls is =
    let P : List (Option ℕ) → Type 0 = λ ds. IsRelaxed arc now ds u v c d false in
    let here = room.room u d near in
    subst P (sym is) (record {
      relaxes = relaxes_none room;
      lower = λ w most is. is;
      near_is = near;
      tight = is_at_most (distance_at now v) (d + c) (λ lower. let none = falls.1 lower in cc none) (omega arith);
    })

-- the arcs so far are tight, and one more
pub tight_more : (arc : Arcs) (ends : ℕ → ℕ × ℕ) (now after : List (Option ℕ)) (u d i : ℕ) (fell more : Bool) →
    OnFalse fell ((j : ℕ) → j < i → IsAtMost (distance_at now (ends j).0) (d + (ends j).1)) → IsRelaxed arc now after u (ends i).0 (ends i).1 d more →
    OnFalse (fell || more) ((j : ℕ) → j < i + 1 → IsAtMost (distance_at after (ends j).0) (d + (ends j).1))
tight_more arc ends now after u d i true more so_far step = tt
tight_more arc ends now after u d i false true so_far step = tt
tight_more arc ends now after u d i false false so_far step =
    below_more (λ j. IsAtMost (distance_at after (ends j).0) (d + (ends j).1)) i
    (λ j below. let same : after ≡ now = step.relaxes.same in rw same (so_far j below))
    step.tight

-- the vertices so far are tight, and one more
pub tights_more : (arc : Arcs) (now after : List (Option ℕ)) (u : ℕ) (fell more : Bool) →
    OnFalse fell ((v : ℕ) → v < u → IsTightFrom arc v now) → Relaxes arc now after more → OnFalse more (IsTightFrom arc u after) →
    OnFalse (fell || more) ((v : ℕ) → v < u + 1 → IsTightFrom arc v after)
tights_more arc now after u true more so_far relaxes tight = tt
tights_more arc now after u false true so_far relaxes tight = tt
tights_more arc now after u false false so_far relaxes tight =
    below_more (λ v. IsTightFrom arc v after) u
    (λ v below. let same : after ≡ now = relaxes.same in
    let P : List (Option ℕ) → Type 0 = λ ds. IsTightFrom arc v ds in
    subst P (sym same) (so_far v below))
    tight

-- where nothing fell since, the vertices so far are tight yet
pub tights_kept : (arc : Arcs) (now after : List (Option ℕ)) (u : ℕ) (fell more : Bool) →
    OnFalse fell ((v : ℕ) → v < u → IsTightFrom arc v now) → Relaxes arc now after more → OnFalse (fell || more) ((v : ℕ) → v < u → IsTightFrom arc v after)
tights_kept arc now after u true more so_far relaxes = tt
tights_kept arc now after u false true so_far relaxes = tt
tights_kept arc now after u false false so_far relaxes = λ v below.
    let same : after ≡ now = relaxes.same in
    let P : List (Option ℕ) → Type 0 = λ ds. IsTightFrom arc v ds in
    subst P (sym same) (so_far v below)

-- no vertex has a distance at first
pub none_at_first : (n v : ℕ) → distance_at (replicate n None) v ≡ None
none_at_first zero v = refl
none_at_first (suc n) zero = refl
none_at_first (suc n) (suc v) = none_at_first n v

pub missing_at_first : (n : ℕ) → missing (replicate n None) ≡ n
missing_at_first zero = refl
missing_at_first (suc n) = omega (arith, missing_at_first n)

pub only_at_root : (n root v d : ℕ) → root < n → distance_at (set (replicate n None) root (Some 0)) v ≡ Some d → (v ≡ root) × (d ≡ 0)
only_at_root n root v d in_range is = grind (arith, common_steps, distance_after, length-replicate, none_at_first)

-- at first the root has room for the costs of all arcs
pub room_at_first : (n root : ℕ) → root < n → n < 2 ^ 32 → HaveRoom (set (replicate n None) root (Some 0))
room_at_first n root in_range small =
    grind (arith, common_steps, length-replicate, missing_at_first, missing_found, none_at_first, only_at_root)

-- at first only the walk of no leg is known
pub walked_at_first : (arc : Arcs) (n root : ℕ) → root < n → AreWalked arc root (set (replicate n None) root (Some 0))
walked_at_first arc n root in_range = grind (arith, common_steps, length-replicate, only_at_root)

-- where no arc undercuts a distance, no walk does
pub no_walk_undercuts : (arc : Arcs) (count : ℕ) (ds : List (Option ℕ)) → ((u v c : ℕ) → u < count → arc u v c → v < count) →
    ((u : ℕ) → u < count → IsTightFrom arc u ds) → (u : ℕ) (legs : List Leg) (v d : ℕ) → u < count → distance_at ds u ≡ Some d → Walks arc u legs v →
    IsAtMost (distance_at ds v) (d + walk_cost legs)
no_walk_undercuts arc count ds ends tight u [] v d in_range is leads =
    let there : distance_at ds v ≡ Some d = rw leads at is in
    record { value = d; is = there; below = omega arith }
no_walk_undercuts arc count ds ends tight u (leg ∷ legs) v d in_range is leads =
    let near : IsAtMost (distance_at ds leg.to) (d + leg.cost) =
    tight u in_range leg.to leg.cost d (leads.0) is in
    let far : IsAtMost (distance_at ds v) (near.value + walk_cost legs) =
    no_walk_undercuts arc count ds ends tight leg.to legs v near.value
    (ends u leg.to leg.cost in_range (leads.0)) near.is (leads.1) in
    record { value = far.value; is = far.is; below = omega arith }

-- costs of walks that no walk undercuts are the least costs
pub distances_from_reached : (arc : Arcs) (root : ℕ) (ds : List (Option ℕ)) → AreWalked arc root ds →
    ((v : ℕ) (legs : List Leg) → Walks arc root legs v → IsAtMost (distance_at ds v) (walk_cost legs)) → AreLeastDistances arc root ds
distances_from_reached arc root ds walked reached =
    let sound : (v d : ℕ) → distance_at ds v ≡ Some d → LeastCost arc root v d =
    λ v d is.
    let walk = walked.walked v d is in
    least_cost_from d walk.legs walk.leads walk.costs (λ others leads.
    let far = reached v others leads in
    let same : Some d ≡ Some far.value = sym is ∙ far.is in
    let equal : d ≡ far.value = cc in
    omega arith) in
    record {
      least = λ v d. (
        sound v d,
        λ least.
            let far = reached v least.legs least.walk.leads in
            let equal : far.value ≡ d = least_cost_unique (sound v far.value far.is) least in
            rw equal at far.is,
      );
      none = λ v. (
        λ is legs leads. let far = reached v legs leads in
            let some = far.is in cc,
        λ no_walk. elim (distance_cases (distance_at ds v)) [
          | inl none ↦ none
          | inr some ↦
              let walk = walked.walked v some.0 some.1 in
              absurd (no_walk walk.legs walk.leads)
        ],
      );
    }

-- costs of walks that no arc undercuts are the least costs
pub distances_from_tight : (arc : Arcs) (count root : ℕ) (ds : List (Option ℕ)) → root < count → ((u v c : ℕ) → u < count → arc u v c → v < count) →
    ((u : ℕ) → u < count → IsTightFrom arc u ds) → AreWalked arc root ds → AreLeastDistances arc root ds
distances_from_tight arc count root ds in_range ends tight walked = distances_from_reached arc root ds walked (λ v legs leads.
    let far = no_walk_undercuts arc count ds ends tight root legs v 0 in_range walked.start leads in
    record { value = far.value; is = far.is; below = omega arith })
