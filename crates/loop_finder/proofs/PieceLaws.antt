-- What the pieces of parts tell of them.
use Rattle.std.proofs.lemmas.Grind.{common_steps}
use Rattle.std.proofs.Common.{◌≡◌, ℕ, zero, suc, ◌+◌, ◌<◌, ◌≤◌, Bool, true, false, List, [], ◌∷◌, ◌++◌, length, get_or, All, Contains, inl, inr, refl, arith, sym, subst}
use Rattle.std.specs.Bool.{OnTrue}
use Rattle.std.proofs.lemmas.Bool.{cases_lt}
use Rattle.std.proofs.lemmas.List.{get_or_past, length_push}
use Rattle.std.proofs.lemmas.List.Elements.{All-contains, Contains-push}
use Rattle.std.proofs.Math.ListN.{get_or-append}
use Rattle.std.proofs.Math.Seq.{get_or-append_seam}
use Rattle.igp_theory.specs.States.{Follows}
use Rattle.igp_theory.specs.Timetables.{Timetable, state_before}
use Rattle.igp_theory.specs.declared.phase.Phase.{Phase}
use Rattle.igp_theory.specs.declared.phase.Phase.TheVariants.{Old, Middle, New}
use Rattle.igp_theory.proofs.SameTables.{follows_over}
use Rattle.loop_finder.specs.Calm.{AreCalm, ChangesIn, WaveStep}
use Rattle.loop_finder.specs.Parts.{ClassPart, PhaseHops, hops_of, no_hops, part_hops}
use Rattle.loop_finder.specs.Pieces.{AreMadeOf, HasReturnsOf, IsInPiece, IsMadeOf, PartEver}
use Rattle.loop_finder.specs.Returns.{NeverReturnsTo}
use Rattle.loop_finder.specs.steps.Cuts.{AreCutHops, AreRowsIn, IsCutAt, IsRowIn, StaysIn, owner_in}
use Rattle.loop_finder.specs.steps.Returns.{layer_in}
use Rattle.loop_finder.proofs.LiveLaws.{follows_append}
use Rattle.loop_finder.proofs.PartRows.{each_more, none_among}

-- what holds of each phase
pub by_phase : (Is : Phase → Type 0) → Is Old → Is Middle → Is New → (phase : Phase) → Is phase
by_phase Is old middle new Old = old
by_phase Is old middle new Middle = middle
by_phase Is old middle new New = new

-- only a router that has a row steps in a part
pub ever_inside : (part : ClassPart) (u h : ℕ) → PartEver part u h → u < length part.rows
ever_inside part u h step = grind (arith, common_steps, cases_lt, get_or_past, none_among)

-- Growing

-- a part stays made of its pieces where one more is there
pub IsMadeOf-more : (pieces longer : List ClassPart) (piece part : ClassPart) (places : List ℕ) → longer ≡ pieces ++ piece ∷ []
    → IsMadeOf pieces part places → IsMadeOf longer part places
IsMadeOf-more pieces longer piece part places is made = subst (λ (xs : List ClassPart). IsMadeOf xs part places) (sym is) (record {
  below = λ k d within. let less : get_or places k d < length pieces = made.below k d within in omega (arith, less, length_push pieces piece);
  each = λ u h hops follows.
      let one : IsInPiece pieces part places u = made.each u h hops follows in
      let within : one.place < length pieces = All-contains (λ (p : ℕ). p < length pieces) places one.place made.below one.among in
      record {
        place = one.place;
        among = one.among;
        has = λ d. subst (λ (x : ClassPart). HasReturnsOf x part u) (sym (get_or-append pieces (piece ∷ []) d one.place within)) (one.has d);
      };
})

-- a part is made of one that has its rows
pub made_whole : (pieces longer : List ClassPart) (piece part : ClassPart) (places : List ℕ) → longer ≡ pieces ++ piece ∷ []
    → places ≡ length pieces ∷ [] → ((u : ℕ) → u < length part.rows → get_or piece.rows u no_hops ≡ get_or part.rows u no_hops)
    → IsMadeOf longer part places
made_whole pieces longer piece part places is at same =
    subst (λ (xs : List ClassPart). IsMadeOf xs part places) (sym is) (subst (λ (ps : List ℕ). IsMadeOf (pieces ++ piece ∷ []) part ps) (sym at) (record {
      below = λ k d within. last k d within;
      each = λ u h hops follows. record {
        place = length pieces;
        among = Contains-push [] (length pieces);
        has = λ d x y front back phase into here out. subst (λ (one : ClassPart). Contains (part_hops one x phase) y)
            (sym (get_or-append_seam pieces piece [] d))
            (subst (λ (row : PhaseHops). Contains (hops_of row phase) y) (sym (same x (ever_inside part x y (phase, here)))) here);
      };
    }))
  where
    last : (k d : ℕ) → k < 1 → get_or (length pieces ∷ []) k d < length (pieces ++ piece ∷ [])
    last zero d within = omega (arith, length_push pieces piece)
    last (suc k) d within = absurd (omega (arith, within))

-- the next part
pub AreMadeOf-more : (pieces parts : List ClassPart) (n : ℕ) (made longer : List (List ℕ)) (places : List ℕ) → longer ≡ made ++ places ∷ []
    → AreMadeOf pieces parts n made → ((d : ClassPart) → IsMadeOf pieces (get_or parts n d) places) → AreMadeOf pieces parts (n + 1) longer
AreMadeOf-more pieces parts n made longer places is are one =
    let more = each_more (λ (p : ℕ) (xs : List ℕ). (d : ClassPart) → IsMadeOf pieces (get_or parts p d) xs) made longer places [] n is are.many are.each one in
    record { many = more.0; each = more.1 }

-- one row more
pub AreRowsIn-more : (layers : List ℕ) (layer : ℕ) (rows own longer : List PhaseHops) (row : PhaseHops) (n : ℕ) → longer ≡ own ++ row ∷ []
    → AreRowsIn layers layer rows n own → IsRowIn layers layer rows n row → AreRowsIn layers layer rows (n + 1) longer
AreRowsIn-more layers layer rows own longer row n is are one = grind (arith, common_steps, each_more)

-- Cuts

-- where a router's steps are cut by a piece, they are cut
pub cut_by : (layers owners places : List ℕ) (pieces : List ClassPart) (part piece : ClassPart) (u : ℕ) (told : Bool)
    → Contains places (owner_in layers owners u) → ((d : ClassPart) → piece ≡ get_or pieces (owner_in layers owners u) d)
    → OnTrue told (AreCutHops layers u (part_hops part u Old) (part_hops piece u Old))
    → OnTrue told (AreCutHops layers u (part_hops part u Middle) (part_hops piece u Middle))
    → OnTrue told (AreCutHops layers u (part_hops part u New) (part_hops piece u New)) → OnTrue told (IsCutAt layers owners places pieces part u)
cut_by layers owners places pieces part piece u false among is old middle new = tt
cut_by layers owners places pieces part piece u true among is old middle new = λ phase h step.
    elim (by_phase (λ (x : Phase). AreCutHops layers u (part_hops part u x) (part_hops piece u x)) old middle new phase h step) [
      | inl lower ↦ inl lower
      | inr level ↦ inr (record {
        level = level.0;
        among = among;
        kept = λ d. subst (λ (x : ClassPart). Contains (part_hops x u phase) h) (is d) level.1;
      })
    ]

-- a part is cut by the layers of its routers
module _ (layers owners places : List ℕ) (pieces : List ClassPart) (part : ClassPart)
    (cut : (u : ℕ) → u < length part.rows → IsCutAt layers owners places pieces part u) where
  falls_one : (x y : ℕ) → PartEver part x y → layer_in layers y ≤ layer_in layers x
  falls_one x y step = elim (cut x (ever_inside part x y step) step.0 y step.1) [
    | inl lower ↦ omega (arith, lower)
    | inr stays ↦ omega (arith, stays.level)
  ]

  falls : (x : ℕ) (hops : List ℕ) (v : ℕ) → Follows (PartEver part) x hops v → layer_in layers v ≤ layer_in layers x
  falls x [] v same = subst (λ (y : ℕ). layer_in layers y ≤ layer_in layers x) same (omega arith)
  falls x (y ∷ rest) v walk = omega (arith, falls_one x y walk.0, falls y rest v walk.1)

  stays : (x y : ℕ) (phase : Phase) → Contains (part_hops part x phase) y → layer_in layers x ≤ layer_in layers y
      → StaysIn layers owners places pieces x phase y
  stays x y phase among back = elim (cut x (ever_inside part x y (phase, among)) phase y among) [
    | inl lower ↦ absurd (omega (arith, lower, back))
    | inr in_piece ↦ in_piece
  ]

  -- so it's made of the pieces of its layers
  pub made_by_cuts : All (λ (p : ℕ). p < length pieces) places → IsMadeOf pieces part places
  made_by_cuts below = record {
    below = below;
    each = λ u h hops follows. record {
      place = owner_in layers owners u;
      among = (stays u h follows.0.0 follows.0.1 (falls h hops u follows.1)).among;
      has = λ d x y front back phase into here out.
          let one : layer_in layers x ≤ layer_in layers u = falls u front x into in
          let two : layer_in layers y ≤ layer_in layers x = falls_one x y (phase, here) in
          let three : layer_in layers u ≤ layer_in layers y = falls y back u out in
          let same : layer_in layers x ≡ layer_in layers u = omega (arith, one, two, three) in
          subst (λ (l : ℕ). Contains (part_hops (get_or pieces (get_or owners l 0) d) x phase) y) same
          ((stays x y phase here (omega (arith, one, three))).kept d);
    };
  }

-- Waves

-- a walk that returns is one over the steps that are kept of it
kept_walk : (step ever kept : ℕ → ℕ → Type 0) (u : ℕ) → ((x y : ℕ) → step x y → ever x y)
    → ((x y : ℕ) (front back : List ℕ) → Follows ever u front x → step x y → Follows ever y back u → kept x y)
    → (x : ℕ) (front rest : List ℕ) → Follows ever u front x → Follows step x rest u → Follows kept x rest u
kept_walk step ever kept u over keeps x front [] into out = out
kept_walk step ever kept u over keeps x front (y ∷ rest) into out = (
  keeps x y front rest into out.0 (follows_over over y rest u out.1),
  kept_walk step ever kept u over keeps y (front ++ y ∷ []) rest (follows_append ever u front x (y ∷ []) y into (over x y out.0, refl)) out.1,
)

wave_ever : (part : ClassPart) (time : Timetable) (w x y : ℕ) → WaveStep part time w x y → PartEver part x y
wave_ever part time w x y (inl one) = (state_before time w x, one)
wave_ever part time w x y (inr other) = (state_before time (w + 1) x, other)

-- where all pieces of a part are calm in a wave, no walk over the part's steps returns to a router that makes a change in it
pub never_in : (pieces : List ClassPart) (part : ClassPart) (places : List ℕ) (time : Timetable) (calm : List ℕ) (w u : ℕ)
    → IsMadeOf pieces part places → AreCalm pieces time calm → All (λ (q : ℕ). w < get_or calm q 0) places → 1 ≤ w → ChangesIn time w u
    → NeverReturnsTo (WaveStep part time w) u
never_in pieces part places time calm w u made calms less some changes h hops follows =
    ((calms.each one.place part within).calm w some sooner u (ever_inside piece u h (wave_ever piece time w u h walk.0))).never changes h hops walk
  where
    one : IsInPiece pieces part places u
    one = made.each u h hops (follows_over (wave_ever part time w) u (h ∷ hops) u follows)

    within : one.place < length pieces
    within = All-contains (λ (p : ℕ). p < length pieces) places one.place made.below one.among

    sooner : w < get_or calm one.place 0
    sooner = All-contains (λ (q : ℕ). w < get_or calm q 0) places one.place less one.among

    piece : ClassPart
    piece = get_or pieces one.place part

    keeps : (x y : ℕ) (front back : List ℕ) → Follows (PartEver part) u front x → WaveStep part time w x y → Follows (PartEver part) y back u
        → WaveStep piece time w x y
    keeps x y front back into (inl step) out = inl (one.has part x y front back (state_before time w x) into step out)
    keeps x y front back into (inr step) out = inr (one.has part x y front back (state_before time (w + 1) x) into step out)

    walk : Follows (WaveStep piece time w) u (h ∷ hops) u
    walk = kept_walk (WaveStep part time w) (PartEver part) (WaveStep piece time w) u (wave_ever part time w) keeps u [] (h ∷ hops) refl follows
