-- Where a journal stands: how far its lines are taken, and that it stands at one place.
use Rattle.std.proofs.Common.{◌≡◌, ℕ, ◌+◌, ◌-◌, ◌*◌, ◌<◌, ◌≤◌, inl, inr, true, false, List, [], ◌∷◌, ◌++◌}
use Rattle.std.proofs.Common.{length, map, take, refl, sym, ap, subst, ◌∙◌, append_assoc, length-append, arith}
use Rattle.std.specs.List.{AllZip}
use Rattle.std.proofs.lemmas.Bool.{cases_order}
use Rattle.std.proofs.lemmas.List.{same_lists, get_or_default}
use Rattle.std.proofs.lemmas.Slice.Zip.{all_zipped_more, AllZip-long}
use Rattle.net_addr.specs.Lines.{line_texts}
use Rattle.net_model.specs.Network.{Network}
use Rattle.net_model.specs.Refusals.{NamesAscend}
use Rattle.order_core.specs.Rankings.{IsRanking}
use Rattle.igp_theory.proofs.OrderedLists.{longer, same_front}
use Rattle.igp_theory.specs.States.{changes_on}
use Rattle.igp_theory.specs.Changes.{Change, changed}
use Rattle.state_replay.specs.Journals.{journal_header, BeginRun, AreChangeCounts, TellsChange, Progress, progress, AreReplayed, HasReached, HasMisfit}
use Rattle.state_replay.specs.Journals.{IsPlace}
use Rattle.state_replay.specs.steps.Making.{IsMade, IsNotMade, MakesChange}
use Rattle.state_replay.specs.declared.place.Place.{Place}
use Rattle.state_replay.specs.declared.place.Place.TheVariants.{Reached, Departs}
use Rattle.state_replay.proofs.Fronts.{begin_fewer}
use Rattle.state_replay.proofs.Counting.{few_changes}
use Rattle.state_replay.proofs.NextChanges.{begin_none}
use Rattle.state_replay.proofs.Lines.{told_once}

-- ---- how far the lines are taken ----

-- the lines up to those that are left are taken, and so many changes are made
pub record IsTaken (p : Progress) (journal : List ℕ) (left : List (List ℕ)) (made : ℕ) : Type 0 where
  pub before : List (List ℕ)
  pub all : line_texts journal ≡ journal_header ∷ before ++ left
  pub changes : List Change
  pub count : made ≡ length changes
  pub replayed : AreReplayed p before changes

pub taken_few : {p : Progress} {journal : List ℕ} {left : List (List ℕ)} {made : ℕ} → IsTaken p journal left made → made ≤ 2 * length p.net
taken_few {p = p} taken = omega (arith, few_changes (length p.net) p.ranks taken.changes taken.replayed.begin, taken.count)

-- the lines of a journal that begins with the header
pub taken_start : {p : Progress} {journal : List ℕ} {left : List (List ℕ)} → line_texts journal ≡ journal_header ∷ left →
    IsRanking (length p.net) p.ranks → AreChangeCounts (length p.net) [] p.done → IsTaken p journal left 0
taken_start {p = p} header ranking counts = record {
  before = [];
  all = header;
  changes = [];
  count = refl;
  replayed = record { told = tt; begin = begin_none (length p.net) p.ranks ranking; counts = counts };
}

module _ (p : Progress) (journal : List ℕ) (line : List ℕ) (left : List (List ℕ)) (made : ℕ) (more : List ℕ) (taken : IsTaken p journal (line ∷ left) made)
  where
    -- the next line, where its change is made
    pub taken_made : MakesChange p line more true → IsTaken (progress p.net p.ranks more) journal left (made + 1)
    taken_made makes =
        let is : IsMade (progress p.net p.ranks more) line taken.changes = makes taken.changes taken.replayed.begin taken.replayed.counts in
        record {
          before = taken.before ++ line ∷ [];
          all = taken.all ∙ ap (λ l. journal_header ∷ l) (sym (append_assoc taken.before (line ∷ []) left));
          changes = taken.changes ++ is.change ∷ [];
          count = let count = taken.count in omega (arith, count, length-append taken.changes (is.change ∷ []));
          replayed = record {
            told = all_zipped_more (TellsChange p.net) taken.before taken.changes line is.change taken.replayed.told is.told;
            begin = is.next;
            counts = is.counts;
          };
        }

    -- and where it isn't
    pub taken_not : MakesChange p line more false → HasMisfit (progress p.net p.ranks more) journal (made + 2)
    taken_not makes =
        let not : IsNotMade p line taken.changes more = makes taken.changes taken.replayed.begin taken.replayed.counts in
        let count = taken.count in
        subst (λ l. HasMisfit (progress p.net p.ranks l) journal (made + 2)) (sym not.stay) (record {
          before = taken.before;
          text = line;
          after = left;
          all = taken.all;
          number = omega (arith, count, AllZip-long (TellsChange p.net) taken.before taken.changes taken.replayed.told);
          changes = taken.changes;
          replayed = taken.replayed;
          misfit = not.misfit;
        })

-- ---- one place ----

one_count : (n : ℕ) (changes others : List Change) (done made : List ℕ) → changes ≡ others → AreChangeCounts n changes done →
    AreChangeCounts n others made → done ≡ made
one_count n changes others done made same one two =
    same_lists done made (one.each ∙ sym two.each)
    (λ u d within.
    let below : u < n = let long = one.each in omega (arith, within, long) in
    let there : u < length made = let long = two.each in omega (arith, below, long) in
    get_or_default done u d 0 within
    ∙ one.count u below
    ∙ ap (λ l. changes_on u (map changed l)) same
    ∙ sym (two.count u below)
    ∙ get_or_default made u 0 d there)

-- lines tell one list of changes
told_list : (net : Network) → NamesAscend net → (lines : List (List ℕ)) (one other : List Change) → AllZip (TellsChange net) lines one →
    AllZip (TellsChange net) lines other → one ≡ other
told_list net ascending [] [] [] h k = refl
told_list net ascending [] [] (d ∷ other) h k = absurd k
told_list net ascending [] (c ∷ one) other h k = absurd h
told_list net ascending (line ∷ lines) [] other h k = absurd h
told_list net ascending (line ∷ lines) (c ∷ one) [] h k = absurd k
told_list net ascending (line ∷ lines) (c ∷ one) (d ∷ other) h k =
    ap (λ x. x ∷ one) (told_once net ascending line c d h.0 k.0) ∙ ap (λ l. d ∷ l) (told_list net ascending lines one other h.1 k.1)

-- a change more than these is told by a line
record HasNext (net : Network) (line : List ℕ) (changes more : List Change) : Type 0 where
  next : Change
  rest : List Change
  whole : more ≡ changes ++ next ∷ rest
  told : TellsChange net line next

next_told : (net : Network) → NamesAscend net → (before : List (List ℕ)) (line : List ℕ) (after : List (List ℕ)) (changes more : List Change) →
    AllZip (TellsChange net) before changes → AllZip (TellsChange net) (before ++ line ∷ after) more → HasNext net line changes more
next_told net ascending [] line after [] [] h k = absurd k
next_told net ascending [] line after [] (d ∷ more) h k = record { next = d; rest = more; whole = refl; told = k.0 }
next_told net ascending [] line after (c ∷ changes) more h k = absurd h
next_told net ascending (l ∷ before) line after [] more h k = absurd h
next_told net ascending (l ∷ before) line after (c ∷ changes) [] h k = absurd k
next_told net ascending (l ∷ before) line after (c ∷ changes) (d ∷ more) h k =
    let is = next_told net ascending before line after changes more h.1 k.1 in
    record {
      next = is.next;
      rest = is.rest;
      whole = ap (λ x. x ∷ more) (told_once net ascending l d c k.0 h.0) ∙ ap (λ x. c ∷ x) is.whole;
      told = is.told;
    }

module _ (net : Network) (ranks journal : List ℕ) (ascending : NamesAscend net) where
  one_reached : (k j : ℕ) (done made : List ℕ) → HasReached (progress net ranks done) journal k → HasReached (progress net ranks made) journal j →
      (Reached k ≡ Reached j) × (done ≡ made)
  one_reached k j done made one two =
      let lines : one.lines ≡ two.lines = let e = sym one.all ∙ two.all in cc in
      let changes : one.changes ≡ two.changes =
      told_list net ascending two.lines one.changes two.changes (subst (λ l. AllZip (TellsChange net) l one.changes) lines one.replayed.told)
      two.replayed.told in
      let count : k ≡ j = one.count ∙ ap length changes ∙ sym two.count in
      (ap Reached count, one_count (length net) one.changes two.changes done made changes one.replayed.counts two.replayed.counts)

  -- lines that tell changes that begin a run don't go on behind those before a misfit
  no_misfit : (done made : List ℕ) (number : ℕ) (lines : List (List ℕ)) (changes : List Change) (misfit : HasMisfit (progress net ranks done) journal number)
      (after : List (List ℕ)) → lines ≡ misfit.before ++ misfit.text ∷ after → AreReplayed (progress net ranks made) lines changes → ⊥
  no_misfit done made number lines changes misfit after all replayed =
      let more : HasNext net misfit.text misfit.changes changes =
      next_told net ascending misfit.before misfit.text after misfit.changes changes misfit.replayed.told
      (subst (λ l. AllZip (TellsChange net) l changes) all replayed.told) in
      misfit.misfit more.next more.told
      (begin_fewer (length net) ranks (misfit.changes ++ more.next ∷ []) more.rest
      (subst (BeginRun (length net) ranks) (more.whole ∙ sym (append_assoc misfit.changes (more.next ∷ []) more.rest)) replayed.begin))

  reached_or_departs : (k line : ℕ) (done made : List ℕ) → HasReached (progress net ranks done) journal k →
      IsPlace (progress net ranks made) journal (Departs line) → ⊥
  reached_or_departs k line done made one (inl two) = two.other one.lines one.all
  reached_or_departs k line done made one (inr two) =
      no_misfit made done line one.lines one.changes two two.after (let e = sym one.all ∙ two.all in cc) one.replayed

  one_misfit : (line other : ℕ) (done made : List ℕ) → HasMisfit (progress net ranks done) journal line →
      HasMisfit (progress net ranks made) journal other → (Departs line ≡ Departs other) × (done ≡ made)
  one_misfit line other done made one two =
      let all : one.before ++ one.text ∷ one.after ≡ two.before ++ two.text ∷ two.after = let e = sym one.all ∙ two.all in cc in
      elim (cases_order (length one.before) (length two.before)) [
        | inl same ↦
            let lines : one.before ≡ two.before = (same_front one.before two.before (one.text ∷ one.after) (two.text ∷ two.after) all same).0 in
            let changes : one.changes ≡ two.changes =
            told_list net ascending two.before one.changes two.changes (subst (λ l. AllZip (TellsChange net) l one.changes) lines one.replayed.told)
            two.replayed.told in
            let number : line ≡ other = one.number ∙ ap (λ l. length l + 2) lines ∙ sym two.number in
            (ap Departs number, one_count (length net) one.changes two.changes done made changes one.replayed.counts two.replayed.counts)
        | inr apart ↦ elim apart [
          | inl lower ↦ absurd (no_misfit done made line two.before two.changes one (take (length two.before - length one.before - 1) one.after)
              (longer one.before one.text one.after two.before (two.text ∷ two.after) all lower) two.replayed)
          | inr lower ↦ absurd (no_misfit made done other one.before one.changes two (take (length one.before - length two.before - 1) two.after)
              (longer two.before two.text two.after one.before (one.text ∷ one.after) (sym all) lower) one.replayed)
        ]
      ]

  one_departure : (line other : ℕ) (done made : List ℕ) → IsPlace (progress net ranks done) journal (Departs line) →
      IsPlace (progress net ranks made) journal (Departs other) → (Departs line ≡ Departs other) × (done ≡ made)
  one_departure line other done made (inl one) (inl two) =
      (ap Departs (one.number ∙ sym two.number), one_count (length net) [] [] done made refl one.counts two.counts)
  one_departure line other done made (inl one) (inr two) = absurd (one.other (two.before ++ two.text ∷ two.after) two.all)
  one_departure line other done made (inr one) (inl two) = absurd (two.other (one.before ++ one.text ∷ one.after) one.all)
  one_departure line other done made (inr one) (inr two) = one_misfit line other done made one two

  pub one_place : (one other : Place) (done made : List ℕ) → IsPlace (progress net ranks done) journal one →
      IsPlace (progress net ranks made) journal other → (one ≡ other) × (done ≡ made)
  one_place (Reached k) (Reached j) done made one two = one_reached k j done made one two
  one_place (Reached k) (Departs line) done made one two = absurd (reached_or_departs k line done made one two)
  one_place (Departs line) (Reached k) done made one two = absurd (reached_or_departs k line made done two one)
  one_place (Departs line) (Departs other) done made one two = one_departure line other done made one two
