-- What is typed on a router, as settings: the configuration is that of the phase in which the changes that are kept leave it.
use Rattle.std.proofs.Common.{◌≡◌, inl, inr, ℕ, Bool, true, false, cond, List, [], ◌∷◌, ◌++◌, length, get_or, map, All, reverse}
use Rattle.std.proofs.Common.{IsTrue, refl, sym, ap, ap₂, ◌∙◌, subst, arith}
use Rattle.std.specs.Prelude.{is_some, slice_get}
use Rattle.std.specs.List.{flat_map}
use Rattle.std.proofs.lemmas.Bool.{cases_eq, eqb-true}
use Rattle.std.proofs.lemmas.List.Concat.{flat_map-append}
use Rattle.std.proofs.lemmas.List.Elements.{All-append, All-head, All-map, All-tail}
use Rattle.net_model.specs.Configuration.{AreDistances, Configuration}
use Rattle.net_model.specs.Network.{HasConfiguration, Network}
use Rattle.net_model.specs.OffStarts.{IsOffStart}
use Rattle.net_model.specs.declared.bounds.TheConstants.{ISIS_DISTANCE, MOST_DISTANCE}
use Rattle.igp_theory.specs.Changes.{Change, first, second}
use Rattle.igp_theory.specs.States.{phase_after}
use Rattle.step_scripts.specs.Scripts.{by_configuration, change_lines, isis_change_lines, ospf_change_lines, ospf_distance_lines}
use Rattle.applied_changes.specs.AppliedTexts.{in_phase, with_distances}
use Rattle.live_replan.specs.BackTexts.{isis_undo_lines, undo_lines}
use Rattle.applied_changes.specs.Settings.{IsAllowed, Setting, setting_lines, with_setting, with_settings}
use Rattle.applied_changes.specs.Settings.Setting.{isis_at, ospf_at}
use Rattle.undone_changes.proofs.RouterChanges.{AreParted, begun_back, begun_kept, done_back, done_kept, half_back, none_made, on}

-- ---- the lines ----

-- what a change sets, and what undoing it does
abbrev pub made : Change → Setting
made (first u) = isis_at ISIS_DISTANCE
made (second u) = ospf_at MOST_DISTANCE

abbrev pub unmade : Configuration → Change → Setting
unmade c (first u) = isis_at MOST_DISTANCE
unmade c (second u) = ospf_at c.distances.ospf

-- what is typed for the changes that are made, and then for those that are undone
abbrev pub there_and_back : Configuration → List Change → List Change → List Setting
there_and_back c changes back = map made changes ++ map (unmade c) (reverse back)

module _ (net : Network) (u : ℕ) (c : Configuration) (at : HasConfiguration net u c) where
  made_line : (d : Change) → on u d ≡ true → change_lines net d ≡ setting_lines c (made d)
  made_line (first v) is =
      ap (λ (w : ℕ). by_configuration isis_change_lines (slice_get net w)) (eqb-true v u is) ∙ ap (by_configuration isis_change_lines) at
  made_line (second v) is =
      ap (λ (w : ℕ). by_configuration (λ (x : Configuration). ospf_change_lines x.process) (slice_get net w)) (eqb-true v u is)
      ∙ ap (by_configuration (λ (x : Configuration). ospf_change_lines x.process)) at

  unmade_line : (d : Change) → on u d ≡ true → undo_lines net d ≡ setting_lines c (unmade c d)
  unmade_line (first v) is =
      ap (λ (w : ℕ). by_configuration isis_undo_lines (slice_get net w)) (eqb-true v u is) ∙ ap (by_configuration isis_undo_lines) at
  unmade_line (second v) is =
      ap (λ (w : ℕ). by_configuration (λ (x : Configuration). ospf_distance_lines x.distances.ospf x.process) (slice_get net w)) (eqb-true v u is)
      ∙ ap (by_configuration (λ (x : Configuration). ospf_distance_lines x.distances.ospf x.process)) at

  as_settings : (lines : Change → List (List ℕ)) (sets : Change → Setting) → ((d : Change) → on u d ≡ true → lines d ≡ setting_lines c (sets d)) →
      (changes : List Change) → All (λ d. on u d ≡ true) changes → flat_map lines changes ≡ flat_map (setting_lines c) (map sets changes)
  as_settings lines sets same [] all = refl
  as_settings lines sets same (d ∷ changes) all =
      ap₂ (λ (x y : List (List ℕ)). x ++ y) (same d (All-head (λ e. on u e ≡ true) d changes all))
      (as_settings lines sets same changes (All-tail (λ e. on u e ≡ true) d changes all))

  pub lines_are : (changes back : List Change) → All (λ d. on u d ≡ true) changes → All (λ d. on u d ≡ true) (reverse back) →
      flat_map (change_lines net) changes ++ flat_map (undo_lines net) (reverse back) ≡ flat_map (setting_lines c) (there_and_back c changes back)
  lines_are changes back all behind =
      ap₂ (λ (x y : List (List ℕ)). x ++ y) (as_settings (change_lines net) made made_line changes all)
      (as_settings (undo_lines net) (unmade c) unmade_line (reverse back) behind)
      ∙ sym (flat_map-append (setting_lines c) (map made changes) (map (unmade c) (reverse back)))

-- ---- they are allowed ----

made_allowed : (d : Change) → IsAllowed (made d)
made_allowed (first u) = inl refl
made_allowed (second u) = record { some = omega arith; most = omega arith; apart = λ e. omega (arith, e) }

unmade_allowed : (c : Configuration) → AreDistances c.distances → (d : Change) → IsAllowed (unmade c d)
unmade_allowed c are (first u) = inr refl
unmade_allowed c are (second u) = record { some = are.some; most = are.most; apart = are.apart }

pub all_allowed : (c : Configuration) → AreDistances c.distances → (changes back : List Change) → All IsAllowed (there_and_back c changes back)
all_allowed c are changes back =
    All-append IsAllowed (map made changes) (map (unmade c) (reverse back))
    (All-map IsAllowed made changes (λ k d l. made_allowed (get_or changes k d)))
    (All-map IsAllowed (unmade c) (reverse back) (λ k d l. unmade_allowed c are (get_or (reverse back) k d)))

-- ---- the configuration ----

-- a distance that is set twice is the second one
ospf_twice : (d e : ℕ) (g : Configuration) → with_setting (ospf_at d) (with_setting (ospf_at e) g) ≡ with_setting (ospf_at d) g
ospf_twice d e g = by_test (is_some g.process) refl
  where
    by_test : (b : Bool) → is_some g.process ≡ b →
        with_setting (ospf_at d) (cond b (with_distances e g.distances.isis g) g) ≡ with_setting (ospf_at d) g
    by_test true is =
        ap (λ (b : Bool). cond b (with_distances d g.distances.isis g) (with_distances e g.distances.isis g)) is
        ∙ sym (ap (λ (b : Bool). cond b (with_distances d g.distances.isis g) g) is)
    by_test false is = refl

isis_twice : (d e : ℕ) (g : Configuration) → with_setting (isis_at d) (with_setting (isis_at e) g) ≡ with_setting (isis_at d) g
isis_twice d e g = by_test g.isis refl
  where
    by_test : (b : Bool) → g.isis ≡ b →
        with_setting (isis_at d) (cond b (with_distances g.distances.ospf e g) g) ≡ with_setting (isis_at d) g
    by_test true is =
        ap (λ (b : Bool). cond b (with_distances g.distances.ospf d g) (with_distances g.distances.ospf e g)) is
        ∙ sym (ap (λ (b : Bool). cond b (with_distances g.distances.ospf d g) g) is)
    by_test false is = refl

-- one that is set to what it is stays
ospf_same : (d : ℕ) (g : Configuration) → g.distances.ospf ≡ d → with_setting (ospf_at d) g ≡ g
ospf_same d g same = subst (λ (n : ℕ). with_setting (ospf_at n) g ≡ g) same (by_test (is_some g.process))
  where
    by_test : (b : Bool) → cond b (with_distances g.distances.ospf g.distances.isis g) g ≡ g
    by_test true = refl
    by_test false = refl

isis_same : (d : ℕ) (g : Configuration) → (IsTrue g.isis → g.distances.isis ≡ d) → with_setting (isis_at d) g ≡ g
isis_same d g same = by_test g.isis refl
  where
    by_test : (b : Bool) → g.isis ≡ b → cond b (with_distances g.distances.ospf d g) g ≡ g
    by_test true is = ap (λ (n : ℕ). with_distances g.distances.ospf n g) (sym (same is))
    by_test false is = refl

-- at its start a router with IS-IS has it at the greatest distance
starts_at : (c : Configuration) → (IsOffStart c → ⊥) → IsTrue c.isis → c.distances.isis ≡ MOST_DISTANCE
starts_at c start runs = elim (cases_eq c.distances.isis MOST_DISTANCE) [
  | inl same ↦ same
  | inr other ↦ absurd (start (inr (runs, other)))
]

-- IS-IS back at the greatest distance is where it was, and OSPF at its own
isis_back : (c : Configuration) → (IsOffStart c → ⊥) → with_setting (isis_at MOST_DISTANCE) (with_setting (isis_at ISIS_DISTANCE) c) ≡ c
isis_back c start = isis_twice MOST_DISTANCE ISIS_DISTANCE c ∙ isis_same MOST_DISTANCE c (starts_at c start)

ospf_back : (c g : Configuration) → g.distances.ospf ≡ c.distances.ospf →
    with_setting (ospf_at c.distances.ospf) (with_setting (ospf_at MOST_DISTANCE) g) ≡ g
ospf_back c g same = ospf_twice c.distances.ospf MOST_DISTANCE g ∙ ospf_same c.distances.ospf g same

ospf_kept : (c : Configuration) → (with_setting (isis_at ISIS_DISTANCE) c).distances.ospf ≡ c.distances.ospf
ospf_kept c = by_test c.isis
  where
    by_test : (b : Bool) → (cond b (with_distances c.distances.ospf ISIS_DISTANCE c) c).distances.ospf ≡ c.distances.ospf
    by_test true = refl
    by_test false = refl

pub leaves : (u : ℕ) (c : Configuration) (front back : List Change) → (IsOffStart c → ⊥) → AreParted u front back →
    with_settings (there_and_back c (front ++ back) back) c ≡ in_phase (phase_after (length front)) c
leaves u c _ _ start none_made = refl
leaves u c _ _ start begun_kept = refl
leaves u c _ _ start begun_back = isis_back c start
leaves u c _ _ start done_kept = refl
leaves u c _ _ start half_back = ospf_back c (with_setting (isis_at ISIS_DISTANCE) c) (ospf_kept c)
leaves u c _ _ start done_back =
    ap (with_setting (isis_at MOST_DISTANCE)) (ospf_back c (with_setting (isis_at ISIS_DISTANCE) c) (ospf_kept c)) ∙ isis_back c start
