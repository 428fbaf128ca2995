-- The laws of what is observed.
use Rattle.std.proofs.Common.{◌≡◌, ℕ, ◌<◌, ◌≤◌, List, [], ◌∷◌, ◌++◌, length, All, refl, ap, subst, arith}
use Rattle.std.proofs.lemmas.List.Elements.{All-head, All-tail}
use Rattle.net_model.specs.Lookups.{IsNamed}
use Rattle.net_model.specs.Network.{Network}
use Rattle.net_model.specs.Refusals.{NamesAscend}
use Rattle.order_core.specs.Rankings.{flat_of}
use Rattle.igp_theory.specs.Phases.{State}
use Rattle.printed_lines.specs.Texts.{text_of}
use Rattle.step_scripts.specs.Scripts.{name_on}
use Rattle.state_replay.specs.Journals.{journal_header}
use Rattle.observed_night.specs.ObservedLaws.{JournalLaw, OneObservedLaw}
use Rattle.observed_night.specs.ObservedTexts.{IsObserved, astray_text, changes_told_in, difference_text, lines_along, differs, astray, journal}
use Rattle.observed_night.specs.declared.night.Observed.{Observed}
use Rattle.observed_night.specs.declared.night.Observed.TheVariants.{Differs, Astray, Journal}
use Rattle.observed_night.proofs.JournalFacts.{flat_below, journal_reaches, reached_along}
use Rattle.observed_night.proofs.SightFacts.{night_differs_not, one_difference, one_name_at}
use Rattle.observed_night.proofs.StateFacts.{told_done_before, told_once_at, told_shown}

-- states that are the same on some routers have the same lines along them
same_lines : (net : Network) (n : ℕ) (one its : State) (order : List ℕ) → All (λ u. u < n) order → ((u : ℕ) → u < n → one u ≡ its u) →
    lines_along net one order ≡ lines_along net its order
same_lines net n one its [] below same = refl
same_lines net n one its (u ∷ order) below same =
    let first = same u (All-head (λ v. v < n) u order below) in
    let rest = same_lines net n one its order (All-tail (λ v. v < n) u order below) same in
    λ i. changes_told_in (first i) (name_on net u) ++ rest i

module _ (before now : Network) (ranks : List ℕ) (before_is : NamesAscend before) (now_is : NamesAscend now)
    (each : length ranks ≡ length before) where
  one_of_two : {one its : Observed} → IsObserved before now ranks one → IsObserved before now ranks its → one ≡ its
  one_of_two (differs name part first) (differs far other second) =
      let same = one_difference before now name far part other before_is now_is first second in
      λ i. Differs (difference_text (same.0 i) (same.1 i))
  one_of_two (differs name part first) (astray u far night lowest named) =
      absurd (night_differs_not before now name before_is night first.differs)
  one_of_two (differs name part first) (journal state night none told) =
      absurd (night_differs_not before now name before_is night first.differs)
  one_of_two (astray u far night lowest named) (differs name part first) =
      absurd (night_differs_not before now name before_is night first.differs)
  one_of_two (astray u name night lowest named) (astray v far also least called) =
      let upto : u ≤ v = lowest.least v least.holds in
      let from : v ≤ u = least.least u lowest.holds in
      let same : u ≡ v = omega (arith, upto, from) in
      ap (λ (n : List ℕ). Astray (astray_text n)) (one_name_at before name far v (subst (IsNamed before name) same named) called)
  one_of_two (astray u name night lowest named) (journal state also none told) = absurd (none u lowest.holds)
  one_of_two (journal state night none told) (differs name part first) =
      absurd (night_differs_not before now name before_is night first.differs)
  one_of_two (journal state night none told) (astray u name also lowest named) = absurd (none u lowest.holds)
  one_of_two (journal one night none told) (journal its also neither tells) =
      ap (λ (lines : List (List ℕ)). Journal (text_of (journal_header ∷ lines)))
      (same_lines before (length before) one its (flat_of ranks) (flat_below (length before) ranks each)
      (λ u below. told_once_at before now ranks u (told u below) (tells u below)))

pub one_observed : OneObservedLaw
one_observed before now ranks one its before_is now_is each h k = one_of_two before now ranks before_is now_is each h k

pub journal_finds : JournalLaw
journal_finds before now ranks state network ranking none told = record {
  shown = record {
    of_run = reached_along (length before) ranks state ranking (told_done_before before now ranks state none told);
    shown = told_shown before now ranks state none told;
  };
  reached = journal_reaches before ranks state network ranking (told_done_before before now ranks state none told);
}
