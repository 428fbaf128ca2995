-- The turns of a loop and the numbers that they name.
use Rattle.std.proofs.Common.{◌≡◌, ◌≢◌, ℕ, ◌+◌, ◌<◌, inl, inr, if◌then◌else◌, Bool, eqb, List, [], ◌∷◌, length, map, get_or, Contains, All, AllPairs}
use Rattle.std.proofs.Common.{refl, sym, ap, ◌∙◌, subst, arith}
use Rattle.std.proofs.lemmas.Bool.Decides.{eqb_tells}
use Rattle.std.proofs.lemmas.List.{get_or-map, length-map}
use Rattle.std.proofs.lemmas.List.Elements.{All-contains, All-head, All-tail, Contains-get_or}
use Rattle.net_model.proofs.Members.{Contains-none, Contains-cases, Contains-map, Contains-in_map}
use Rattle.order_core.specs.Rankings.{rank_of}
use Rattle.order_core.specs.Turns.{old_routers, new_routers, HasBothTags}
use Rattle.order_core.specs.declared.turn.Tag.{Tag}
use Rattle.order_core.specs.declared.turn.Tag.TheVariants as tag
use Rattle.order_core.specs.declared.turn.Turn.{Turn}
use Rattle.igp_theory.specs.Loops.{IsTag}
use Rattle.igp_theory.specs.Migrations.{Migration}
use Rattle.igp_theory.specs.TimetableLaws.{SwitchesIn, AreSwitched}
use Rattle.igp_theory.specs.Timetables.{IsTimetable}
use Rattle.igp_theory.proofs.LoopLaws.{TurnOf, old_turn, new_turn, old_listed, new_listed}
use Rattle.igp_theory.proofs.Rings.{around_inside}
use Rattle.igp_theory.proofs.Tags.{IsTagTo, AreTagged}
use Rattle.plan_theory.specs.Ranked.{Ranked}
use Rattle.plan_theory.proofs.Serving.{at_router, Serves}

-- A list of numbers by their routers

-- the number among some turns that has this router, 0 where there is none
abbrev pub number_in : (ℕ → ℕ) → List Turn → ℕ → ℕ
number_in router [] u = 0
number_in router (t ∷ turns) u = if eqb (router t.router) u then t.router else number_in router turns u

-- Turns that are told otherwise, with the same tags

module _ (f : Turn → Turn) (same_tag : (t : Turn) → (f t).tag ≡ t.tag) (turns : List Turn) where
  pub both_in_map : HasBothTags turns → HasBothTags (map f turns)
  both_in_map both =
      let old = old_turn turns (get_or (old_routers turns) 0 0) (Contains-get_or (old_routers turns) 0 0 both.old) in
      let new = new_turn turns (get_or (new_routers turns) 0 0) (Contains-get_or (new_routers turns) 0 0 both.new) in
      let in_old = old_listed (map f turns) (f old.turn) (Contains-in_map f turns old.turn old.among) (same_tag old.turn ∙ old.tagged) in
      let in_new = new_listed (map f turns) (f new.turn) (Contains-in_map f turns new.turn new.among) (same_tag new.turn ∙ new.tagged) in
      record { old = omega (arith, in_old.1); new = omega (arith, in_new.1) }

  pub both_of_map : HasBothTags (map f turns) → HasBothTags turns
  both_of_map both =
      let old = old_turn (map f turns) (get_or (old_routers (map f turns)) 0 0) (Contains-get_or (old_routers (map f turns)) 0 0 both.old) in
      let new = new_turn (map f turns) (get_or (new_routers (map f turns)) 0 0) (Contains-get_or (new_routers (map f turns)) 0 0 both.new) in
      let one = Contains-map f turns old.turn old.among in
      let other = Contains-map f turns new.turn new.among in
      let in_old = old_listed turns one.item one.among (sym (same_tag one.item) ∙ ap (λ (t : Turn). t.tag) one.gives ∙ old.tagged) in
      let in_new = new_listed turns other.item other.among (sym (same_tag other.item) ∙ ap (λ (t : Turn). t.tag) other.gives ∙ new.tagged) in
      record { old = omega (arith, in_old.1); new = omega (arith, in_new.1) }

module _ (move : Migration) (r : Ranked) (serves : Serves move r) where
  abbrev pub at : Turn → Turn
  at t = at_router serves.router t

  -- it is the number of any turn of the router
  pub number_found : (a : ℕ) (turns : List Turn) (t : Turn) → All (r.names a) turns → Contains turns t →
      number_in serves.router turns (serves.router t.router) ≡ t.router
  number_found a [] t named inside = absurd (Contains-none t inside)
  number_found a (x ∷ turns) t named inside = elim (eqb_tells (serves.router x.router) (serves.router t.router)) [
    | inl same ↦ ap (λ (b : Bool). if b then x.router else number_in serves.router turns (serves.router t.router)) same.0
        ∙ serves.one a x t (All-head (r.names a) x turns named) (All-contains (r.names a) (x ∷ turns) t named inside) same.1
    | inr apart ↦ elim (Contains-cases x turns t inside) [
      | inl same ↦ absurd (apart.1 (ap (λ (y : Turn). serves.router y.router) same))
      | inr later ↦
          ap (λ (b : Bool). if b then x.router else number_in serves.router turns (serves.router t.router)) apart.0
          ∙ number_found a turns t (All-tail (r.names a) x turns named) later
    ]
  ]

  -- turns that name their numbers are told by the ring of their routers
  pub turns_by_ring : (a : ℕ) (s t : List Turn) → map at s ≡ map at t → All (r.names a) s → All (r.names a) t → s ≡ t
  turns_by_ring a [] [] same one two = refl
  turns_by_ring a [] (y ∷ t) same one two = cc
  turns_by_ring a (x ∷ s) [] same one two = cc
  turns_by_ring a (x ∷ s) (y ∷ t) same one two =
      let heads : at x ≡ at y = cc in
      let router : serves.router x.router ≡ serves.router y.router = ap (λ (t : Turn). t.router) heads in
      let number : x.router ≡ y.router = serves.one a x y (All-head (r.names a) x s one) (All-head (r.names a) y t two) router in
      let tag : x.tag ≡ y.tag = ap (λ (t : Turn). t.tag) heads in
      let first : x ≡ y = λ i. record { router = number i; tag = tag i } in
      let later : map at s ≡ map at t = cc in
      let rest : s ≡ t = turns_by_ring a s t later (All-tail (r.names a) x s one) (All-tail (r.names a) y t two) in
      cc

  -- The turns of one loop

  module _ (a : ℕ) (turns : List Turn) (named : All (r.names a) turns) where
    -- a turn of these, of this tag and this router, and its number
    pub record NumberOf (t : Tag) (u : ℕ) : Type 0 where
      pub turn : Turn
      pub among : Contains turns turn
      pub tagged : turn.tag ≡ t
      pub number : number_in serves.router turns u ≡ turn.router

    number_of : (t : Tag) (u : ℕ) → TurnOf (map at turns) t u → NumberOf t u
    number_of t u of =
        let given = Contains-map at turns of.turn of.among in
        record {
          turn = given.item;
          among = given.among;
          tagged = ap (λ (x : Turn). x.tag) given.gives ∙ of.tagged;
          number = ap (number_in serves.router turns) (sym of.router ∙ sym (ap (λ (x : Turn). x.router) given.gives))
              ∙ number_found a turns given.item named given.among;
        }

    pub old_number : (u : ℕ) → Contains (old_routers (map at turns)) u → NumberOf tag.Old u
    old_number u inside = number_of tag.Old u (old_turn (map at turns) u inside)

    pub new_number : (u : ℕ) → Contains (new_routers (map at turns)) u → NumberOf tag.New u
    new_number u inside = number_of tag.New u (new_turn (map at turns) u inside)

    pub old_in_ring : (t : Turn) → Contains turns t → t.tag ≡ tag.Old → Contains (old_routers (map at turns)) (serves.router t.router)
    old_in_ring t inside is = old_listed (map at turns) (at t) (Contains-in_map at turns t inside) is

    pub new_in_ring : (t : Turn) → Contains turns t → t.tag ≡ tag.New → Contains (new_routers (map at turns)) (serves.router t.router)
    new_in_ring t inside is = new_listed (map at turns) (at t) (Contains-in_map at turns t inside) is

    -- distinct routers have distinct numbers, which are ranked where the routers are of the network
    pub numbers_distinct : AllPairs (λ (s t : Turn). s.router ≢ t.router) (map at turns) → AllPairs (λ (s t : Turn). s.router ≢ t.router) turns
    numbers_distinct distinct i j d before within same =
        let long = length-map turns at in
        let one : get_or (map at turns) i (at d) ≡ at (get_or turns i d) = get_or-map at turns i d (at d) (omega (arith, before, within)) in
        let two : get_or (map at turns) j (at d) ≡ at (get_or turns j d) = get_or-map at turns j d (at d) within in
        distinct i j (at d) before (omega (arith, within, long))
        (ap (λ (x : Turn). x.router) one ∙ ap serves.router same ∙ sym (ap (λ (x : Turn). x.router) two))

    pub numbers_below : All (λ (t : Turn). t.router < length move.net) (map at turns) → All (λ (t : Turn). t.router < r.size) turns
    numbers_below below k d within =
        let long = length-map turns at in
        let one : get_or (map at turns) k (at d) ≡ at (get_or turns k d) = get_or-map at turns k d (at d) within in
        serves.inside a (get_or turns k d) (named k d within)
        (subst (λ (x : Turn). x.router < length move.net) one (below k (at d) (omega (arith, within, long))))

    -- Its turns are switched in the waves of the numbers

    module _ (ranks : List ℕ) (table : IsTimetable (length move.net) move.start (r.times ranks)) where
      -- the wave of a router of the ring
      abbrev pub wave_at : ℕ → ℕ
      wave_at u = rank_of ranks (number_in serves.router turns u) + 1

      pub wave_of_number : (t : Turn) → Contains turns t → wave_at (serves.router t.router) ≡ rank_of ranks t.router + 1
      wave_of_number t inside = ap (λ (k : ℕ). rank_of ranks k + 1) (number_found a turns t named inside)

      pub ring_switched : AreTagged move a (map at turns) → AreSwitched move (r.times ranks) a wave_at (map at turns)
      ring_switched tags =
          around_inside (IsTagTo move a) (λ (x y : Turn). SwitchesIn move (r.times ranks) a x y.router (wave_at x.router)) (map at turns)
          (λ x y inside tagged.
          let given = Contains-map at turns x inside in
          let switch : SwitchesIn move (r.times ranks) a (at given.item) y.router (rank_of ranks given.item.router + 1) =
          serves.switched ranks a given.item y.router table (All-contains (r.names a) turns given.item named given.among)
          (subst (λ (z : Turn). IsTag move a z y.router) (sym given.gives) tagged) in
          subst (λ (z : Turn). SwitchesIn move (r.times ranks) a z y.router (wave_at z.router)) given.gives
          (subst (λ (k : ℕ). SwitchesIn move (r.times ranks) a (at given.item) y.router k) (sym (wave_of_number given.item given.among)) switch))
          tags
