-- How waves are written, one router and one wave after another, and where each wave stands in the flat run.
use Rattle.std.proofs.lemmas.Grind.{common_steps}
use Rattle.std.proofs.Common.{◌≡◌, ◌≢◌, ℕ, ◌+◌, ◌-◌, ◌<◌, ◌≤◌, inl, inr, Bool, true, false, cond, List, [], ◌∷◌}
use Rattle.std.proofs.Common.{◌++◌, length, get_or, take, drop, eqb, arith, sym, ap, ◌∙◌, length-append, zero-add, append_assoc}
use Rattle.std.specs.List.{filter}
use Rattle.std.proofs.Math.Seq.{take-append_seam, drop-append_seam}
use Rattle.std.proofs.lemmas.Bool.Decides.{eqb_tells}
use Rattle.std.proofs.lemmas.List.{append-nil}
use Rattle.std.proofs.lemmas.List.Elements.{filter-append}
use Rattle.std.proofs.lemmas.List.FromFn.{get_or-map-range_with_len, length-map-range_with_len, map-range_with_len_more}
use Rattle.order_core.specs.HeldWaves.{starts_of}
use Rattle.order_core.specs.Rankings.{rank_of, wave_count, numbers_below, wave_of, waves_before, flat_of}
use Rattle.order_core.proofs.WaveLists.{numbers_more, waves_more, waves_split}

-- the routers of a wave below a number
abbrev pub part_of : List ℕ → ℕ → ℕ → List ℕ
part_of ranks w n = filter (λ u. eqb (rank_of ranks u) w) (numbers_below n)

part_more : (ranks : List ℕ) (w n : ℕ) (b : Bool) → eqb (rank_of ranks n) w ≡ b → part_of ranks w (n + 1) ≡ part_of ranks w n
    ++ cond b (n ∷ []) []
part_more ranks w n b is = grind (arith, common_steps, filter-append, is, numbers_more)

-- a router of the wave is added
pub part_added : (ranks start flat new : List ℕ) (w n : ℕ) → flat ≡ start ++ part_of ranks w n → rank_of ranks n ≡ w →
    new ≡ flat ++ n ∷ [] →
    new ≡ start ++ part_of ranks w (n + 1)
part_added ranks start flat new w n part here is = elim (eqb_tells (rank_of ranks n) w) [
  | inl same ↦
      is ∙ ap (λ (xs : List ℕ). xs ++ n ∷ []) part ∙ append_assoc start (part_of ranks w n) (n ∷ [])
      ∙ ap (λ (xs : List ℕ). start ++ xs) (sym (part_more ranks w n true same.0))
  | inr apart ↦ absurd (apart.1 here)
]

-- a router of another wave isn't
pub part_passed : (ranks start flat : List ℕ) (w n : ℕ) → flat ≡ start ++ part_of ranks w n → rank_of ranks n ≢ w →
    flat ≡ start ++ part_of ranks w (n + 1)
part_passed ranks start flat w n part apart = elim (eqb_tells (rank_of ranks n) w) [
  | inl same ↦ absurd (apart same.1)
  | inr other ↦ part ∙ ap (λ (xs : List ℕ). start ++ xs) (sym (append-nil (part_of ranks w n)) ∙ sym (part_more ranks w n false other.0))
]

pub starts_length : (ranks : List ℕ) (count : ℕ) → length (starts_of ranks count) ≡ count
starts_length ranks count = length-map-range_with_len (λ w. length (waves_before ranks w)) 0 count

pub starts_more : (ranks : List ℕ) (count : ℕ) → starts_of ranks (count + 1) ≡ starts_of ranks count ++ length (waves_before ranks count) ∷ []
starts_more ranks count = map-range_with_len_more (λ w. length (waves_before ranks w)) 0 count count (zero-add count)

pub starts_at : (ranks : List ℕ) (count w d : ℕ) → w < count → get_or (starts_of ranks count) w d ≡ length (waves_before ranks w)
starts_at ranks count w d below = get_or-map-range_with_len (λ v. length (waves_before ranks v)) 0 count w w d below (zero-add w)

-- where a wave stands in the flat run
pub record IsWavePart (ranks : List ℕ) (w start end : ℕ) : Type 0 where
  pub rises : start ≤ end
  pub within : end ≤ length (flat_of ranks)
  pub is : take (end - start) (drop start (flat_of ranks)) ≡ wave_of ranks w

pub wave_part : (ranks : List ℕ) (w : ℕ) → w < wave_count ranks →
    IsWavePart ranks w (length (waves_before ranks w)) (length (waves_before ranks (w + 1)))
wave_part ranks w below =
    let before : List ℕ = waves_before ranks w in
    let wave : List ℕ = wave_of ranks w in
    let split = waves_split ranks (w + 1) (wave_count ranks) (omega arith) in
    let more : waves_before ranks (w + 1) ≡ before ++ wave = waves_more ranks w in
    let flat : flat_of ranks ≡ before ++ (wave ++ split.0) =
    split.1 ∙ ap (λ (xs : List ℕ). xs ++ split.0) more ∙ append_assoc before wave split.0 in
    let long : length (waves_before ranks (w + 1)) ≡ length before + length wave = ap length more ∙ length-append before wave in
    let whole : length (flat_of ranks) ≡ length before + (length wave + length split.0) =
    ap length flat ∙ length-append before (wave ++ split.0) ∙ ap (λ (n : ℕ). length before + n) (length-append wave split.0) in
    let count : length (waves_before ranks (w + 1)) - length before ≡ length wave = omega (arith, long) in
    record {
      rises = omega (arith, long);
      within = omega (arith, long, whole);
      is =
          ap (λ (n : ℕ). take n (drop (length before) (flat_of ranks))) count
          ∙ ap (λ (xs : List ℕ). take (length wave) (drop (length before) xs)) flat
          ∙ ap (take (length wave)) (drop-append_seam before (wave ++ split.0)) ∙ take-append_seam wave split.0;
    }
