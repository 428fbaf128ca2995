-- The changes that a journal tells, as they are read, and the parts that undo them.
use Rattle.std.proofs.Common.{◌≡◌, ℕ, ◌+◌, ◌-◌, ◌<◌, List, [], ◌∷◌, ◌++◌, length, get_or, take, reverse, refl, sym, ap, subst, ◌∙◌, arith}
use Rattle.std.proofs.Common.{append_assoc, append-nil}
use Rattle.std.specs.List.{AllZip, enumerate_from, flat_map}
use Rattle.std.proofs.lemmas.List.{get_or-map, get_or-reverse, length-map, length-reverse, map_push, take_more}
use Rattle.std.proofs.lemmas.List.Concat.{flat_map-append}
use Rattle.std.proofs.lemmas.List.FromFn.{get_or-enumerate_from, length-enumerate_from}
use Rattle.net_addr.specs.Lines.{line_texts}
use Rattle.net_model.specs.Network.{Network}
use Rattle.net_model.specs.Refusals.{NamesAscend}
use Rattle.igp_theory.specs.Changes.{Change}
use Rattle.printed_lines.specs.Texts.{text_of}
use Rattle.printed_lines.proofs.TextSteps.{text_of-append}
use Rattle.state_replay.specs.Halves.{change_of}
use Rattle.state_replay.specs.Journals.{journal_header, TellsChange}
use Rattle.state_replay.proofs.Lines.{told_once}
use Rattle.live_replan.specs.BackTexts.{TellsChanges, undo_part}
use Rattle.live_replan.specs.declared.told.Told.{Told}
use Rattle.live_replan.specs.steps.ToldChanges.{ToldSoFar, changes_told}

abbrev pub change_told : Told → Change
change_told t = change_of t.router t.half

module _ (net : Network) (journal : List ℕ) where
  -- the header was read
  pub none_told : (left : List (List ℕ)) → line_texts journal ≡ journal_header ∷ left → ToldSoFar net journal left []
  none_told left all changes tells =
      let same : tells.lines ≡ left = cc (tells.all, all) in
      record { rest = changes; each = subst (λ l. AllZip (TellsChange net) l changes) same tells.told; whole = refl }

  -- the changes behind a line, the first of which it tells
  pub record IsTold (line : List ℕ) (left : List (List ℕ)) (rest : List Change) : Type 0 where
    pub change : Change
    pub more : List Change
    pub parts : rest ≡ change ∷ more
    pub tells : TellsChange net line change
    pub each : AllZip (TellsChange net) left more

  pub told_first : (line : List ℕ) (left : List (List ℕ)) (rest : List Change) → AllZip (TellsChange net) (line ∷ left) rest → IsTold line left rest
  told_first line left [] h = absurd h
  told_first line left (c ∷ more) h = record { change = c; more = more; parts = refl; tells = h.0; each = h.1 }

  -- a further line was read
  pub one_told : (line : List ℕ) (left : List (List ℕ)) (told : List Told) (t : Told) → NamesAscend net → ToldSoFar net journal (line ∷ left) told →
      TellsChange net line (change_told t) → ToldSoFar net journal left (told ++ t ∷ [])
  one_told line left told t network so_far tells changes all =
      let are = so_far changes all in
      let next = told_first line left are.rest are.each in
      let same : next.change ≡ change_told t = told_once net network line next.change (change_told t) next.tells tells in
      record {
        rest = next.more;
        each = next.each;
        whole =
            are.whole ∙ ap (λ l. changes_told told ++ l) (next.parts ∙ ap (λ c. c ∷ next.more) same)
            ∙ sym (append_assoc (changes_told told) (change_told t ∷ []) next.more)
            ∙ ap (λ l. l ++ next.more) (sym (map_push change_told told t));
      }

  -- no line is left
  pub all_told : (told : List Told) → ToldSoFar net journal [] told → (changes : List Change) → TellsChanges net journal changes →
      changes ≡ changes_told told
  all_told told so_far changes all = by_rest (so_far changes all).rest (so_far changes all).each (so_far changes all).whole
    where
      by_rest : (rest : List Change) → AllZip (TellsChange net) [] rest → changes ≡ changes_told told ++ rest → changes ≡ changes_told told
      by_rest [] each whole = whole ∙ append-nil (changes_told told)
      by_rest (c ∷ rest) each whole = absurd each

-- ---- the parts, from the last to the first ----

module _ (net : Network) (changes : List Told) where
  abbrev parts : List (ℕ × Change)
  parts = reverse (enumerate_from 1 (changes_told changes))

  pub parts_long : length parts ≡ length changes
  parts_long = length-reverse (enumerate_from 1 (changes_told changes)) ∙ length-enumerate_from 1 (changes_told changes) ∙ length-map changes change_told

  -- the part at a place from behind
  pub part_at : (back : ℕ) (t : Told) (d : ℕ × Change) → back < length changes → t ≡ get_or changes (length changes - 1 - back) t →
      get_or parts back d ≡ (length changes - 1 - back + 1, change_told t)
  part_at back t d within is =
      let place : ℕ = length changes - 1 - back in
      let long = length-map changes change_told in
      let number = length-enumerate_from 1 (changes_told changes) in
      let same : length (enumerate_from 1 (changes_told changes)) - 1 - back ≡ place = omega arith in
      let inside : place < length (changes_told changes) = omega arith in
      let item : get_or (changes_told changes) place d.1 ≡ change_told t =
      get_or-map change_told changes place t d.1 (omega arith) ∙ ap change_told (sym is) in
      let count : 1 + place ≡ place + 1 = omega arith in
      get_or-reverse (enumerate_from 1 (changes_told changes)) back d (omega arith)
      ∙ ap (λ k. get_or (enumerate_from 1 (changes_told changes)) k d) same
      ∙ get_or-enumerate_from 1 (changes_told changes) place d inside
      ∙ (λ i. (count i, item i))

  -- the text of one part more
  pub text_more : (back : ℕ) (t : Told) → back < length changes → t ≡ get_or changes (length changes - 1 - back) t →
      text_of (flat_map (undo_part net) (take (back + 1) parts))
      ≡ text_of (flat_map (undo_part net) (take back parts)) ++ text_of (undo_part net (length changes - 1 - back + 1, change_told t))
  text_more back t within is =
      let d : ℕ × Change = (0, change_told t) in
      let more = take_more parts back d (omega (arith, within, parts_long)) ∙ ap (λ p. take back parts ++ p ∷ []) (part_at back t d within is) in
      ap (λ l. text_of (flat_map (undo_part net) l)) more
      ∙ ap text_of (flat_map-append (undo_part net) (take back parts) ((length changes - 1 - back + 1, change_told t) ∷ []))
      ∙ text_of-append (flat_map (undo_part net) (take back parts)) (flat_map (undo_part net) ((length changes - 1 - back + 1, change_told t) ∷ []))
      ∙ ap (λ l. text_of (flat_map (undo_part net) (take back parts)) ++ text_of l) (append-nil (undo_part net (length changes - 1 - back + 1, change_told t)))
