-- `rollback` decides one thing of an order file, a journal and a network; and what a journal that was replayed tells.
use Rattle.std.proofs.Common.{arith}
use Rattle.std.proofs.lemmas.Grind.{common_steps}
use Rattle.std.proofs.Common.{◌≡◌, ◌∷◌, ℕ, [], List, ap, refl, subst, sym, ◌∙◌}
use Rattle.std.specs.List.{AllZip}
use Rattle.net_model.specs.Network.{Network}
use Rattle.net_model.specs.Refusals.{NamesAscend}
use Rattle.igp_theory.specs.Changes.{Change}
use Rattle.live_replan.specs.BackTexts.{TellsChanges, back_text}
use Rattle.state_replay.specs.Journals.{HasReached, TellsChange, progress}
use Rattle.state_replay.specs.declared.place.Place.TheVariants as place
use Rattle.state_replay.proofs.Lines.{told_once}
use Rattle.state_replay.proofs.Places.{one_place}
use Rattle.step_scripts.proofs.WaveFileLaws.{no_fault, one_faulty_line, one_wave_list}
use Rattle.migration_report.specs.Outcomes.{IsTellable}
use Rattle.migration_report.specs.declared.decision.Decision.{Decision}
use Rattle.migration_report.specs.declared.decision.Decision.TheVariants.{WayBack, Departs, BadOrder}
use Rattle.migrate_cli.specs.Reading.{NamedText}
use Rattle.migrate_cli.specs.ReplayDecision.{Journal}
use Rattle.migrate_cli.specs.RollbackDecision.{IsRollbackDecision, IsWayBack}
use Rattle.migrate_cli.specs.RollbackDecision.IsRollbackDecision.{faulty_waves, of_waves}
use Rattle.migrate_cli.specs.RollbackDecision.IsWayBack.{departs, taken_back}

-- ---- what a journal tells ----

-- lines tell one list of changes
told_list : (net : Network) → NamesAscend net → (lines : List (List ℕ)) (one other : List Change) → AllZip (TellsChange net) lines one →
    AllZip (TellsChange net) lines other → one ≡ other
told_list net ascending [] [] [] h k = refl
told_list net ascending [] [] (d ∷ other) h k = absurd k
told_list net ascending [] (c ∷ one) other h k = absurd h
told_list net ascending (line ∷ lines) [] other h k = absurd h
told_list net ascending (line ∷ lines) (c ∷ one) [] h k = absurd k
told_list net ascending (line ∷ lines) (c ∷ one) (d ∷ other) h k =
    ap (λ x. x ∷ one) (told_once net ascending line c d h.0 k.0) ∙ ap (λ l. d ∷ l) (told_list net ascending lines one other h.1 k.1)

-- a journal that has reached a state tells its changes
pub reached_tells : (journal : Journal) (ranks done : List ℕ) (made : ℕ) (at : HasReached (progress journal.net ranks done) journal.text made) →
    TellsChanges journal.net journal.text at.changes
reached_tells journal ranks done made at = record { lines = at.lines; all = at.all; told = at.replayed.told }

-- and no others
pub tells_once : (journal : Journal) (one other : List Change) → NamesAscend journal.net → TellsChanges journal.net journal.text one →
    TellsChanges journal.net journal.text other → one ≡ other
tells_once journal one other ascending is its = grind (arith, common_steps, told_list)

-- ---- one decision ----

one_way_back : (journal : Journal) (ranks : List ℕ) {d e : Decision} → NamesAscend journal.net → IsWayBack journal ranks d →
    IsWayBack journal ranks e → d ≡ e
one_way_back journal ranks ascending (taken_back made done at) (taken_back many counts its) =
    ap (λ (changes : List Change). WayBack (back_text journal.net changes))
    (tells_once journal at.changes its.changes ascending (reached_tells journal ranks done made at) (reached_tells journal ranks counts many its))
one_way_back journal ranks ascending (taken_back made done at) (departs line counts its) =
    absurd (let same = one_place journal.net ranks journal.text ascending (place.Reached made) (place.Departs line) done counts at its in Prim.cc same.0)
one_way_back journal ranks ascending (departs line counts its) (taken_back made done at) =
    absurd (let same = one_place journal.net ranks journal.text ascending (place.Departs line) (place.Reached made) counts done its at in Prim.cc same.0)
one_way_back journal ranks ascending (departs line done at) (departs number counts its) =
    let same = one_place journal.net ranks journal.text ascending (place.Departs line) (place.Departs number) done counts at its in
    let line_same : line ≡ number = cc (same.0) in
    ap (λ n. Departs n) line_same

pub one_rollback_decision : (order : NamedText) (journal : Journal) {d e : Decision} → NamesAscend journal.net →
    IsRollbackDecision order journal d → IsRollbackDecision order journal e → d ≡ e
one_rollback_decision order journal ascending (faulty_waves n k one) (faulty_waves m j other) =
    let same = one_faulty_line journal.net order.text n m k j one other in λ i. BadOrder order.file (same.0 i) (same.1 i)
one_rollback_decision order journal ascending (faulty_waves n k least) (of_waves version ranks _ names _) =
    absurd (no_fault journal.net order.text version ranks n k ascending names least.faulty)
one_rollback_decision order journal ascending (of_waves version ranks _ names _) (faulty_waves n k least) =
    absurd (no_fault journal.net order.text version ranks n k ascending names least.faulty)
one_rollback_decision order journal {e = e} ascending (of_waves version one _ names is) (of_waves its other _ again are) =
    let same : one ≡ other = (one_wave_list journal.net order.text version its one other ascending names again).1 in
    one_way_back journal one ascending is (subst (λ ranks. IsWayBack journal ranks e) (sym same) are)

way_back_tellable : {journal : Journal} {ranks : List ℕ} {d : Decision} → IsWayBack journal ranks d → IsTellable journal.net d
way_back_tellable (taken_back _ _ _) = tt
way_back_tellable (departs _ _ _) = tt

pub rollback_tellable : {order : NamedText} {journal : Journal} {d : Decision} → IsRollbackDecision order journal d → IsTellable journal.net d
rollback_tellable (faulty_waves _ _ _) = tt
rollback_tellable (of_waves _ _ _ _ is) = way_back_tellable is
