-- `replay` decides one thing of an order file, a journal and a network.
use Rattle.std.proofs.Common.{◌≡◌, ℕ, ◌<◌, List, length, get_or, Option, Some, None, refl, sym, ap, subst, ◌∙◌}
use Rattle.std.proofs.lemmas.List.{same_lists, get_or_default}
use Rattle.igp_theory.specs.Changes.{Change}
use Rattle.net_model.specs.Network.{Network}
use Rattle.net_model.specs.Refusals.{NamesAscend}
use Rattle.state_replay.specs.Journals.{AreChangeCounts, BeginRun, IsNextOn}
use Rattle.state_replay.specs.declared.half.Half.{Half}
use Rattle.state_replay.specs.declared.place.Place.TheVariants as place
use Rattle.state_replay.proofs.Places.{one_place}
use Rattle.step_scripts.proofs.WaveFileLaws.{no_fault, one_faulty_line, one_wave_list}
use Rattle.migration_report.specs.Outcomes.{IsTellable}
use Rattle.migration_report.specs.declared.decision.Decision.{Decision}
use Rattle.migration_report.specs.declared.decision.Decision.TheVariants.{Reached, Departs, BadOrder}
use Rattle.migrate_cli.specs.Reading.{NamedText}
use Rattle.migrate_cli.specs.ReplayDecision.{Journal, AreNext, IsJournalDecision, IsReplayDecision}
use Rattle.migrate_cli.specs.ReplayDecision.IsJournalDecision.{reached, departs}
use Rattle.migrate_cli.specs.ReplayDecision.IsReplayDecision.{faulty_waves, of_waves}

-- after changes with these counts a router has one change that may come next
same_next : (ranks done : List ℕ) (changes : List Change) → BeginRun (length ranks) ranks changes → AreChangeCounts (length ranks) changes done
    → (u : ℕ) (one other : Option Half) → IsNextOn ranks done u one → IsNextOn ranks done u other → one ≡ other
same_next ranks done changes begin counts u None None is its = refl
same_next ranks done changes begin counts u None (Some half) is its = absurd (is changes begin counts half ((its changes begin counts half).1 refl))
same_next ranks done changes begin counts u (Some half) None is its = absurd (its changes begin counts half ((is changes begin counts half).1 refl))
same_next ranks done changes begin counts u (Some half) (Some next) is its =
    ap (λ h. Some h) ((its changes begin counts half).0 ((is changes begin counts half).1 refl))

same_nexts : (ranks done : List ℕ) (changes : List Change) → BeginRun (length ranks) ranks changes → AreChangeCounts (length ranks) changes done
    → (one other : List (Option Half)) → AreNext ranks done (length ranks) one → AreNext ranks done (length ranks) other → one ≡ other
same_nexts ranks done changes begin counts one other is its =
    same_lists one other (is.each ∙ sym its.each)
    (λ u d within. let below : u < length ranks = subst (λ n. u < n) is.each within in
    let there : u < length other = subst (λ n. u < n) (sym its.each) below in
    get_or_default one u d None within
    ∙ same_next ranks done changes begin counts u (get_or one u None) (get_or other u None) (is.next u below) (its.next u below)
    ∙ sym (get_or_default other u d None there))

-- one thing is decided of a journal
one_journal_decision : (journal : Journal) (ranks : List ℕ) {d e : Decision} → NamesAscend journal.net → length ranks ≡ length journal.net
    → IsJournalDecision journal ranks d → IsJournalDecision journal ranks e → d ≡ e
one_journal_decision journal ranks ascending each (reached made done nexts at is) (reached many counts others its are) =
    let net : Network = journal.net in
    let same = one_place net ranks journal.text ascending (place.Reached made) (place.Reached many) done counts at its in
    let made_same : made ≡ many = cc (same.0) in
    let run : BeginRun (length ranks) ranks at.changes = subst (λ n. BeginRun n ranks at.changes) (sym each) at.replayed.begin in
    let counted : AreChangeCounts (length ranks) at.changes done = subst (λ n. AreChangeCounts n at.changes done) (sym each) at.replayed.counts in
    let these : AreNext ranks done (length ranks) nexts = subst (λ n. AreNext ranks done n nexts) (sym each) is in
    let those : AreNext ranks done (length ranks) others =
    subst (λ n. AreNext ranks done n others) (sym each) (subst (λ d. AreNext ranks d (length net) others) (sym same.1) are) in
    let nexts_same : nexts ≡ others = same_nexts ranks done at.changes run counted nexts others these those in
    λ i. Reached (made_same i) (nexts_same i)
one_journal_decision journal ranks ascending each (reached made done nexts at is) (departs line counts its) =
    absurd (let same = one_place journal.net ranks journal.text ascending (place.Reached made) (place.Departs line) done counts at its in Prim.cc same.0)
one_journal_decision journal ranks ascending each (departs line counts its) (reached made done nexts at is) =
    absurd (let same = one_place journal.net ranks journal.text ascending (place.Departs line) (place.Reached made) counts done its at in Prim.cc same.0)
one_journal_decision journal ranks ascending each (departs line done at) (departs number counts its) =
    let same = one_place journal.net ranks journal.text ascending (place.Departs line) (place.Departs number) done counts at its in
    let line_same : line ≡ number = cc (same.0) in
    ap (λ n. Departs n) line_same

-- and so of an order file and a journal
pub one_replay_decision : (order : NamedText) (journal : Journal) {d e : Decision} → NamesAscend journal.net
    → IsReplayDecision order journal d → IsReplayDecision order journal e → d ≡ e
one_replay_decision order journal ascending (faulty_waves n k one) (faulty_waves m j other) =
    let same = one_faulty_line journal.net order.text n m k j one other in λ i. BadOrder order.file (same.0 i) (same.1 i)
one_replay_decision order journal ascending (faulty_waves n k least) (of_waves version ranks _ names _) =
    absurd (no_fault journal.net order.text version ranks n k ascending names least.faulty)
one_replay_decision order journal ascending (of_waves version ranks _ names _) (faulty_waves n k least) =
    absurd (no_fault journal.net order.text version ranks n k ascending names least.faulty)
one_replay_decision order journal {e = e} ascending (of_waves version one _ names is) (of_waves its other _ again are) =
    let same : one ≡ other = (one_wave_list journal.net order.text version its one other ascending names again).1 in
    one_journal_decision journal one ascending names.are.each is (subst (λ ranks. IsJournalDecision journal ranks e) (sym same) are)

-- it is of the network's routers
journal_tellable : {journal : Journal} {ranks : List ℕ} {d : Decision} → IsJournalDecision journal ranks d → IsTellable journal.net d
journal_tellable (reached _ _ _ _ are) = are.each
journal_tellable (departs _ _ _) = tt

pub replay_tellable : {order : NamedText} {journal : Journal} {d : Decision} → IsReplayDecision order journal d → IsTellable journal.net d
replay_tellable (faulty_waves _ _ _) = tt
replay_tellable (of_waves _ _ _ _ is) = journal_tellable is
