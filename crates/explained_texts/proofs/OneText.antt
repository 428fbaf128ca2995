-- There is one text of reasons, and one of the way of a fault.
use Rattle.std.proofs.Common.{◌≡◌, ◌∙◌, ℕ, ◌+◌, ◌-◌, ◌<◌, List, ◌∷◌, ◌++◌, length, map, codes, Contains, ap, arith, refl, subst, sym}
use Rattle.std.proofs.Common.{inl, inr}
use Rattle.std.proofs.lemmas.Bool.{cases_order}
use Rattle.net_addr.specs.Addresses.{Block}
use Rattle.net_model.specs.Network.{Connected, Network}
use Rattle.net_model.specs.Refusals.{IsNetwork}
use Rattle.net_model.specs.RouterNames.{names_of}
use Rattle.order_core.specs.Rankings.{rank_of}
use Rattle.order_core.specs.Turns.{old_routers}
use Rattle.order_core.specs.declared.turn.Turn.{Turn}
use Rattle.printed_lines.specs.Texts.{line}
use Rattle.printed_lines.specs.Words.{prefix_word, router_word}
use Rattle.route_core.specs.Hops.{AreHops}
use Rattle.igp_theory.specs.Loops.{Fault, loop}
use Rattle.igp_theory.specs.Migrations.{Migration}
use Rattle.igp_theory.specs.Phases.{made_in}
use Rattle.igp_theory.specs.declared.phase.Phase.{Phase}
use Rattle.igp_theory.proofs.Phases.{phases_same}
use Rattle.igp_theory.proofs.Rings.{around_at}
use Rattle.igp_theory.proofs.TableLaws.{hops_unique}
use Rattle.igp_theory.proofs.WaveFaultLaws.{times_fault_unique}
use Rattle.explained_waves.proofs.Reasons.{forbids_earlier}
use Rattle.explained_texts.specs.ReasonTexts.{IsLowestBefore, IsReasonLine, IsReasonsText, after_words, comes_after, may_be_earlier, of_first_wave}
use Rattle.explained_texts.specs.TextLaws.{HasOneEntry}
use Rattle.explained_texts.specs.UseWords.{AreUseWords, phase_word, uses_none, uses_one, usable_words}
use Rattle.explained_texts.specs.WayTexts.{AreOriginators, IsFirstLacking, IsTargetLine, IsUseLine, IsWayText, StateSpan, UsesTowards, of_ring, of_router, turn_phase}
use Rattle.explained_texts.proofs.OneUse.{one_target, one_use}
use Rattle.explained_texts.proofs.ToldTexts.{one_told}

-- ---- reasons ----

-- of the routers that a router comes after, the lowest is one
pub lowest_once : (ranks : List ℕ) (ring other : List Turn) (v u w : ℕ) → ring ≡ other → IsLowestBefore ranks ring v u →
    IsLowestBefore ranks other v w → u ≡ w
lowest_once ranks ring other v u w same one two =
    let first = one.lowest w (subst (λ (l : List Turn). Contains (old_routers l) w) (sym same) two.is_old) two.just_before in
    let second = two.lowest u (subst (λ (l : List Turn). Contains (old_routers l) u) same one.is_old) one.just_before in
    omega (arith, first, second)

module _ (move : Migration) (ranks : List ℕ) where
  one_told_of : (v : ℕ) (s t : List ℕ) → IsReasonLine move ranks v s → IsReasonLine move ranks v t → s ≡ t
  one_told_of v s t (of_first_wave _) (of_first_wave _) = refl
  one_told_of v s t (of_first_wave first) (may_be_earlier later _) = absurd (omega (arith, first, later))
  one_told_of v s t (of_first_wave first) (comes_after _ _ _ later _ _) = absurd (omega (arith, first, later))
  one_told_of v s t (may_be_earlier later _) (of_first_wave first) = absurd (omega (arith, first, later))
  one_told_of v s t (may_be_earlier _ _) (may_be_earlier _ _) = refl
  one_told_of v s t (may_be_earlier later may) (comes_after a after ring _ keeps _) =
      absurd (forbids_earlier move ranks v (rank_of ranks v - 1) (loop a ring) keeps.reason (omega (arith, later)) may)
  one_told_of v s t (comes_after _ _ _ later _ _) (of_first_wave first) = absurd (omega (arith, first, later))
  one_told_of v s t (comes_after a after ring later keeps _) (may_be_earlier _ may) =
      absurd (forbids_earlier move ranks v (rank_of ranks v - 1) (loop a ring) keeps.reason (omega (arith, later)) may)
  one_told_of v s t (comes_after a after ring _ keeps lowest) (comes_after b other turns _ again its) =
      let same : loop a ring ≡ loop b turns = (times_fault_unique keeps.told again.told).1 in
      let address : a ≡ b = cc in
      let rings : ring ≡ turns = cc in
      let routers : after ≡ other = lowest_once ranks ring turns v after other rings lowest its in
      λ i. line (router_word (names_of move.net) v) (after_words (names_of move.net) ranks v (routers i) (address i) (rings i))

  pub one_reasons_text : (text other : List ℕ) → IsReasonsText move ranks text → IsReasonsText move ranks other → text ≡ other
  one_reasons_text text other is its = one_told (IsReasonLine move ranks) (λ v inside. one_told_of v) is its

-- ---- the way of a packet ----

originators_once : (net : Network) (p : Block) (one other : List ℕ) → AreOriginators net p one → AreOriginators net p other → one ≡ other
originators_once net p one other is its =
    hops_unique (as_hops one is) (as_hops other its)
  where
    as_hops : (routers : List ℕ) → AreOriginators net p routers → AreHops (λ u. Connected net u p) routers
    as_hops routers are = record { ascending = λ k below. are.ascending k (k + 1) 0 (omega arith) below; exact = are.exact }

one_target_line : (net : Network) (a : ℕ) (s t : List ℕ) → IsNetwork net → IsTargetLine net a s → IsTargetLine net a t → s ≡ t
one_target_line net a s t network one two =
    let targets : one.target ≡ two.target = one_target net a one.target two.target network one.is_target two.is_target in
    let routers : one.routers ≡ two.routers = originators_once net two.target one.routers two.routers
    (subst (λ (p : Block). AreOriginators net p one.routers) targets one.originators) two.originators in
    one.text_is
    ∙ (λ i. line (codes "target") (prefix_word (targets i) ∷ codes "at" ∷ map (router_word (names_of net)) (routers i)))
    ∙ sym two.text_is

module _ (move : Migration) (network : IsNetwork move.net) (one_old : HasOneEntry move.net move.old)
    (one_new : HasOneEntry move.net move.new) where
  one_words : (u : ℕ) (phase : Phase) (a : ℕ) (within : u < length move.net) {s t : List (List ℕ)} → AreUseWords move u phase a s →
      AreUseWords move u phase a t → s ≡ t
  one_words u phase a within (uses_none _) (uses_none _) = refl
  one_words u phase a within (uses_none none) (uses_one used uses _) = absurd (none used uses)
  one_words u phase a within (uses_one used uses _) (uses_none none) = absurd (none used uses)
  one_words u phase a within (uses_one used uses block) (uses_one other others its) =
      let same = one_use move network one_old one_new u within phase a used other uses others block its in
      λ i. prefix_word (same.prefixes i) ∷ usable_words (names_of move.net) (same.distances i) (same.used i)

  one_use_line : (a u : ℕ) (phase other : Phase) (s t : List ℕ) → u < length move.net → phase ≡ other → IsUseLine move a u phase s →
      IsUseLine move a u other t → s ≡ t
  one_use_line a u phase other s t within phases one two =
      let words : one.words ≡ two.words = one_words u other a within
      (subst (λ (p : Phase). AreUseWords move u p a one.words) phases one.used) two.used in
      one.text_is
      ∙ (λ i. line (codes "at") (router_word (names_of move.net) u ∷ phase_word (phases i) ∷ words i))
      ∙ sym two.text_is

  -- the first phase without a step is one
  one_lacking : (span : StateSpan) (a u : ℕ) (phase other : Phase) → IsFirstLacking move span a u phase →
      IsFirstLacking move span a u other → phase ≡ other
  one_lacking span a u phase other one two =
      phases_same phase other (elim (cases_order (made_in phase) (made_in other)) [
        | inl same ↦ same
        | inr (inl below) ↦ absurd (one.lacks (two.earlier phase one.between below))
        | inr (inr above) ↦ absurd (two.lacks (one.earlier other two.between above))
      ])

  pub one_way_text : (span : StateSpan) {fault : Fault} {text other : List ℕ} → IsWayText move span fault text →
      IsWayText move span fault other → text ≡ other
  one_way_text span (of_ring a ring first rest target goes told) (of_ring _ _ begin ending its _ others) =
      ap (λ (l : List ℕ). l ++ rest) (one_target_line move.net a first begin network target its)
      ∙ ap (λ (l : List ℕ). begin ++ l)
      (one_told (λ (turn : Turn). IsUseLine move a turn.router (turn_phase span turn))
      (λ turn inside s t one two. one_use_line a turn.router (turn_phase span turn) (turn_phase span turn) s t
      (around_at (λ (r q : Turn). UsesTowards move r.router (turn_phase span r) a q.router) ring turn goes inside).1.steps.must.router
      refl one two) told others)
  one_way_text span (of_router a u phase first rest target lacks is) (of_router _ _ other begin ending its also too) =
      ap (λ (l : List ℕ). l ++ rest) (one_target_line move.net a first begin network target its)
      ∙ ap (λ (l : List ℕ). begin ++ l)
      (one_use_line a u phase other rest ending lacks.must.router (one_lacking span a u phase other lacks also) is too)
