-- The configurations of a network after the first changes of some run show its state, and differ from those before in their
-- distances alone.
use Rattle.std.proofs.Common.{arith}
use Rattle.std.proofs.lemmas.Grind.{common_steps}
use Rattle.std.proofs.Common.{◌≡◌, ℕ, ◌<◌, Bool, List, cond, IsTrue, IsSome, sym, ap, ◌∙◌, subst, inl, inr}
use Rattle.std.proofs.lemmas.Bool.{cases_eq}
use Rattle.net_model.specs.Configuration.{Configuration}
use Rattle.net_model.specs.Network.{Network, HasConfiguration}
use Rattle.net_model.specs.declared.bounds.TheConstants.{ISIS_DISTANCE, MOST_DISTANCE}
use Rattle.igp_theory.specs.declared.phase.Phase.{Phase}
use Rattle.applied_changes.specs.AppliedTexts.{after_first, after_second, in_phase, with_distances}
use Rattle.typed_distances.proofs.PhasesByDistance.{phase_alike}
use Rattle.observed_night.specs.Differences.{AreOneNight}
use Rattle.observed_night.specs.Parts.{AreAlikeIn, HaveSameItems}
use Rattle.observed_night.specs.ShownPhases.{IsShownState, ShowPhase, isis_distance_in, ospf_distance_in}
use Rattle.observed_night.specs.declared.part.Part.{Part}
use Rattle.observed_night.proofs.SightFacts.{configured_at}
use Rattle.migrate_cli.specs.Configurations.{IsAtStart}
use Rattle.migrate_cli.specs.ObservePromise.{IsAfterChanges}

-- ---- one router ----

both_ways : {A B : Type 0} (f : A → B) (v : B) (b : Bool) (x y : A) → f x ≡ v → f y ≡ v → f (cond b x y) ≡ v
both_ways f v b x y one other = grind (arith, common_steps)

-- the first change lets the distance of OSPF be, and the second one that of IS-IS
ospf_let_be : (c : Configuration) → (after_first c).distances.ospf ≡ c.distances.ospf
ospf_let_be c = grind (arith, common_steps, both_ways)

isis_let_be : (c : Configuration) → (after_second c).distances.isis ≡ c.distances.isis
isis_let_be c = grind (arith, common_steps, both_ways)

isis_set : (c : Configuration) → IsTrue c.isis → (after_first c).distances.isis ≡ ISIS_DISTANCE
isis_set c runs = ap (λ b. (cond b (with_distances c.distances.ospf ISIS_DISTANCE c) c).distances.isis) runs

ospf_set : (c : Configuration) → IsSome c.process → (after_second (after_first c)).distances.ospf ≡ MOST_DISTANCE
ospf_set c runs = grind (arith, common_steps, phase_alike)

isis_shown : (phase : Phase) (c : Configuration) → (IsTrue c.isis → c.distances.isis ≡ MOST_DISTANCE) → IsTrue c.isis →
    (in_phase phase c).distances.isis ≡ isis_distance_in phase
isis_shown phase c start runs = grind (arith, common_steps, isis_let_be, isis_set)

ospf_shown : (phase : Phase) (c : Configuration) → IsSome c.process → (in_phase phase c).distances.ospf ≡ ospf_distance_in c.distances.ospf phase
ospf_shown phase c runs = grind (arith, common_steps, ospf_let_be, ospf_set)

phase_shown : (phase : Phase) (c : Configuration) → (IsTrue c.isis → c.distances.isis ≡ MOST_DISTANCE) → ShowPhase c (in_phase phase c) phase
phase_shown phase c start = grind (arith, common_steps, isis_shown, ospf_shown, phase_alike)

same_as : {A : Type 0} {ones others : List A} → ones ≡ others → HaveSameItems ones others
same_as {A} {ones} same = subst (HaveSameItems ones) same (λ (item : A). (λ inside. inside, λ inside. inside))

-- two configurations that differ in their distances alone are alike in each part
alike_parts : (c d : Configuration) → with_distances 0 0 d ≡ with_distances 0 0 c → (part : Part) → AreAlikeIn part c d
alike_parts c d same it_3 = grind (arith, common_steps, same_as)

-- ---- the networks ----

isis_at_start : (net : Network) (u : ℕ) (c : Configuration) → IsAtStart net → HasConfiguration net u c → IsTrue c.isis →
    c.distances.isis ≡ MOST_DISTANCE
isis_at_start net u c start at runs = elim (cases_eq c.distances.isis MOST_DISTANCE) [
  | inl same ↦ same
  | inr apart ↦ absurd (start u (record { config = c; router = at; off = inr (runs, apart) }))
]

module _ (net now : Network) (ranks : List ℕ) (after : IsAfterChanges net now ranks) where
  pub after_is_night : AreOneNight net now
  after_is_night = record {
    routers = after.routers;
    alike = λ u c d old its part.
        let is : d ≡ in_phase (after.state u) c = after.each u c d old its in
        alike_parts c d (ap (with_distances 0 0) is ∙ phase_alike (after.state u) c) part;
  }

  pub after_is_shown : IsAtStart net → IsShownState net now ranks after.state
  after_is_shown start = record {
    of_run = after.of_run;
    shown = λ u below.
        let one = configured_at net u below in
        let its = configured_at now u (subst (λ n. u < n) after.routers below) in
        record {
          one = one.0;
          its = its.0;
          before_is = one.1;
          now_is = its.1;
          shown =
              subst (λ (d : Configuration). ShowPhase one.0 d (after.state u)) (sym (after.each u one.0 its.0 one.1 its.1))
              (phase_shown (after.state u) one.0 (isis_at_start net u one.0 start one.1));
        };
  }
