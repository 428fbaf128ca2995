-- Over tables with the same entries the texts are the same.
use Rattle.std.proofs.Common.{ℕ, ◌<◌, List, length}
use Rattle.order_core.specs.declared.turn.Turn.{Turn}
use Rattle.net_addr.specs.Addresses.{Block}
use Rattle.igp_theory.specs.Forwarding.{Counts, Usable, Uses, connected_counts, new_counts, old_counts}
use Rattle.igp_theory.specs.Laws.{HaveSameTables}
use Rattle.igp_theory.specs.Loops.{Fault}
use Rattle.igp_theory.specs.Migrations.{Migration, retabled}
use Rattle.igp_theory.specs.Routes.{Tables}
use Rattle.igp_theory.specs.Timetables.{IsSoundThroughout, Timetable}
use Rattle.igp_theory.specs.declared.phase.Phase.{Phase}
use Rattle.igp_theory.proofs.Rings.{around_at}
use Rattle.igp_theory.proofs.SameTables.{arises_over, around_ring_over, has_step_over, loop_over, same_tables_sym, sound_over, steps_over, uses_over}
use Rattle.igp_theory.proofs.WaveFaultLaws.{times_fault_over}
use Rattle.explained_waves.specs.Reasons.{IsReason}
use Rattle.explained_texts.specs.ReasonTexts.{IsReasonLine, IsReasonsText, comes_after, may_be_earlier, of_first_wave}
use Rattle.explained_texts.specs.UseWords.{AreUseWords, uses_none, uses_one}
use Rattle.explained_texts.specs.WayTexts.{IsFirstLacking, IsUseLine, IsWayText, IsFaultInSpan, StateSpan, UsesTowards, goes_round, lacks_step, of_ring}
use Rattle.explained_texts.specs.WayTexts.{of_router, turn_phase}
use Rattle.explained_texts.proofs.ToldTexts.{told_over}

module _ {move : Migration} {old' new' : Tables} (same : HaveSameTables move old' new') where
  abbrev other : Migration
  other = retabled move old' new'

  -- ---- reasons ----

  pub throughout_over : {time : Timetable} → IsSoundThroughout move time → IsSoundThroughout other time
  throughout_over is = record { table = is.table; sound = λ state of. sound_over same (is.sound state of) }

  reason_over : {ranks : List ℕ} {v : ℕ} {fault : Fault} → IsReason move ranks v fault → IsReason other ranks v fault
  reason_over reason = record {
    address = reason.address;
    ring = reason.ring;
    is = reason.is;
    is_loop = loop_over same reason.is_loop;
    arises = record {
      state = reason.arises.state;
      of_wave = reason.arises.of_wave;
      arises = arises_over reason.arises.state reason.address reason.ring same reason.arises.arises;
    };
    is_new = reason.is_new;
    after = reason.after;
    is_old = reason.is_old;
    just_before = reason.just_before;
    none_earlier = reason.none_earlier;
  }

  told_of_over : (ranks : List ℕ) (v : ℕ) (text : List ℕ) → IsReasonLine move ranks v text → IsReasonLine other ranks v text
  told_of_over ranks v text (of_first_wave first) = of_first_wave first
  told_of_over ranks v text (may_be_earlier later may) = may_be_earlier later (throughout_over may)
  told_of_over ranks v text (comes_after a after ring later keeps lowest) =
      comes_after a after ring later (record { told = times_fault_over same keeps.told; reason = reason_over keeps.reason }) lowest

  pub reasons_over : {ranks text : List ℕ} → IsReasonsText move ranks text → IsReasonsText other ranks text
  reasons_over {ranks} is = told_over (IsReasonLine move ranks) (IsReasonLine other ranks) (λ v told inside. told_of_over ranks v told) is

  -- ---- the way of a packet ----

  counts_over : {u d : ℕ} {phase : Phase} {p : Block} {x : Usable} → u < length move.net → Counts move u phase p d x →
      Counts other u phase p d x
  counts_over within (connected_counts is) = connected_counts is
  counts_over {u} {p = p} within (old_counts {e = e} counts c has is set entry) =
      old_counts counts c has is set ((same.same_old u p e within).0 entry)
  counts_over {u} {p = p} within (new_counts {e = e} counts entry) = new_counts counts ((same.same_new u p e within).0 entry)

  counts_back : {u d : ℕ} {phase : Phase} {p : Block} {x : Usable} → u < length move.net → Counts other u phase p d x →
      Counts move u phase p d x
  counts_back within (connected_counts is) = connected_counts is
  counts_back {u} {p = p} within (old_counts {e = e} counts c has is set entry) =
      old_counts counts c has is set ((same.same_old u p e within).1 entry)
  counts_back {u} {p = p} within (new_counts {e = e} counts entry) = new_counts counts ((same.same_new u p e within).1 entry)

  -- the entry that is used is the same, of the same prefix and at the same distance
  abbrev used_over : {u a : ℕ} {phase : Phase} {x : Usable} → u < length move.net → Uses move u phase a x → Uses other u phase a x
  used_over within uses = record {
    prefix = uses.prefix;
    distance = uses.distance;
    counts = counts_over within uses.counts;
    contains = uses.contains;
    longest = λ q d used counts. uses.longest q d used (counts_back within counts);
    lowest = λ q d used counts. uses.lowest q d used (counts_back within counts);
  }

  words_over : {u a : ℕ} {phase : Phase} {words : List (List ℕ)} → u < length move.net → AreUseWords move u phase a words →
      AreUseWords other u phase a words
  words_over within (uses_none none) = uses_none (λ used uses. none used (uses_over (same_tables_sym same) within uses))
  words_over within (uses_one used uses block) = uses_one used (used_over within uses) block

  line_over : {a u : ℕ} {phase : Phase} {text : List ℕ} → u < length move.net → IsUseLine move a u phase text →
      IsUseLine other a u phase text
  line_over within is = record { words = is.words; used = words_over within is.used; text_is = is.text_is }

  towards_over : {u a h : ℕ} {phase : Phase} → UsesTowards move u phase a h → UsesTowards other u phase a h
  towards_over is = record {
    steps = steps_over same is.steps;
    each = λ used uses. is.each used (uses_over (same_tables_sym same) is.steps.must.router uses);
  }

  lacking_over : {span : StateSpan} {a u : ℕ} {phase : Phase} → IsFirstLacking move span a u phase → IsFirstLacking other span a u phase
  lacking_over is = record {
    must = is.must;
    between = is.between;
    lacks = λ has. is.lacks (has_step_over (same_tables_sym same) has);
    earlier = λ phase between before. has_step_over same (is.earlier phase between before);
  }

  pub way_over : {span : StateSpan} {fault : Fault} {text : List ℕ} → IsWayText move span fault text → IsWayText other span fault text
  way_over {span} (of_ring a ring first rest target goes told) =
      of_ring a ring first rest target
      (around_ring_over (λ (r s : Turn). towards_over {u = r.router} {a = a} {h = s.router} {phase = turn_phase span r}) ring goes)
      (told_over (λ (turn : Turn). IsUseLine move a turn.router (turn_phase span turn))
      (λ (turn : Turn). IsUseLine other a turn.router (turn_phase span turn))
      (λ turn text inside is. line_over
      (around_at (λ (r s : Turn). UsesTowards move r.router (turn_phase span r) a s.router) ring turn goes inside).1.steps.must.router is)
      told)
  way_over (of_router a u phase first rest target lacks is) =
      of_router a u phase first rest target (lacking_over lacks) (line_over lacks.must.router is)

  pub stands_over : {span : StateSpan} {fault : Fault} → IsFaultInSpan move span fault → IsFaultInSpan other span fault
  stands_over (lacks_step a u phase address must between lacks) =
      lacks_step a u phase address must between (λ has. lacks (has_step_over (same_tables_sym same) has))
  stands_over {span} (goes_round a ring address some goes) =
      goes_round a ring address some
      (around_ring_over (λ (r s : Turn). steps_over {u = r.router} {a = a} {h = s.router} {phase = turn_phase span r} same) ring goes)
