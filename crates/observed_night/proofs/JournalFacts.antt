-- The journal of a state tells changes that begin a run, and with them each router is in its phase.
use Rattle.std.proofs.Common.{◌≡◌, ◌≢◌, ℕ, ◌+◌, ◌<◌, ◌≤◌, inl, inr, List, [], ◌∷◌, ◌++◌, length, map, take, get_or, All, AllPairs, Contains}
use Rattle.std.proofs.Common.{codes, refl, sym, ap, subst, ◌∙◌, zero-add, arith}
use Rattle.std.specs.List.{AllZip, flat_map}
use Rattle.std.proofs.lemmas.List.{get_or-map, length-map, take-append-le, take_all}
use Rattle.std.proofs.lemmas.List.FromFn.{length-range_with_len, get_or-range_with_len}
use Rattle.std.proofs.lemmas.List.Elements.{All-cons, All-nil, All-append, All-head, All-tail, All-weaker, Contains-get_or}
use Rattle.net_model.specs.Configuration.{Configuration, IsConfiguration, IsNameByte}
use Rattle.net_model.specs.Lookups.{IsNamed}
use Rattle.net_model.specs.Network.{Network}
use Rattle.net_model.specs.Refusals.{IsNetwork}
use Rattle.net_model.proofs.Members.{Contains-none, Contains-first, Contains-rest, Contains-cases, Contains-flat_map, Contains-in_flat_map}
use Rattle.net_model.proofs.NetworkFacts.{HasConfiguration-keeps}
use Rattle.order_core.specs.Orders.{IsOrder}
use Rattle.order_core.specs.Rankings.{IsRanking, flat_of, numbers_below, rank_of}
use Rattle.order_core.proofs.WaveLists.{flat_is_order}
use Rattle.igp_theory.specs.Changes.{Change, first, second, changed}
use Rattle.igp_theory.specs.Phases.{State, all_old, made_in}
use Rattle.igp_theory.specs.States.{changes_on, phase_after}
use Rattle.igp_theory.specs.Timetables.{IsStateOf, MayPrecede, router_times, state_after}
use Rattle.igp_theory.specs.declared.phase.Phase.{Phase}
use Rattle.igp_theory.specs.declared.phase.Phase.TheVariants.{Old, Middle, New}
use Rattle.igp_theory.proofs.FlatOrders.{InWaveOrder, flat_in_turn, flat_lists}
use Rattle.igp_theory.proofs.OrderedLists.{contains_one, pairs_none, pairs_more, pairs_first, pairs_rest, pairs_append}
use Rattle.igp_theory.proofs.Phases.{phase_reached}
use Rattle.igp_theory.proofs.SortedChanges.{first_precedes, precede_apart}
use Rattle.printed_lines.specs.Texts.{IsPrintedLine}
use Rattle.printed_lines.specs.Words.{IsPrintedWord, IsWordByte}
use Rattle.printed_lines.proofs.LineFacts.{lines_read_back}
use Rattle.printed_lines.proofs.NumberFacts.{IsWordByte-above_blank}
use Rattle.printed_lines.proofs.WordFacts.{words_make_lines}
use Rattle.step_scripts.specs.Scripts.{by_configuration, name_on}
use Rattle.step_scripts.proofs.TextFacts.{plain_word}
use Rattle.step_scripts.proofs.Zips.{zip_append}
use Rattle.state_replay.specs.Halves.{change_of, ending_of}
use Rattle.state_replay.specs.Journals.{BeginRun, TellsChange, journal_header}
use Rattle.state_replay.specs.declared.half.Half.{Half}
use Rattle.state_replay.specs.declared.half.Half.TheVariants.{First, Second}
use Rattle.state_replay.proofs.Counting.{is_none, is_one, is_both}
use Rattle.state_replay.proofs.Fronts.{AreInFront, run_of_front}
use Rattle.observed_night.specs.ObservedLaws.{JournalReaches}
use Rattle.observed_night.specs.ObservedTexts.{changes_told_in, lines_along, state_journal}
use Rattle.observed_night.proofs.SightFacts.{configured_at, named_as}
use Rattle.observed_night.proofs.StateFacts.{AreDoneBefore}

-- the changes that a router has made in a phase
abbrev made_by : Phase → ℕ → List Change
made_by Old u = []
made_by Middle u = first u ∷ []
made_by New u = first u ∷ second u ∷ []

made_own : (phase : Phase) (u : ℕ) (c : Change) → Contains (made_by phase u) c → changed c ≡ u
made_own Old u c inside = absurd (Contains-none c inside)
made_own Middle u c inside = sym (ap changed (contains_one (first u) c inside))
made_own New u c inside = elim (Contains-cases (first u) (second u ∷ []) c inside) [
  | inl one ↦ sym (ap changed one)
  | inr rest ↦ sym (ap changed (contains_one (second u) c rest))
]

made_begun : (phase : Phase) (u : ℕ) (c : Change) → Contains (made_by phase u) c → phase ≢ Old
made_begun phase u c inside is = Contains-none c (subst (λ (p : Phase). Contains (made_by p u) c) is inside)

made_in_new : (c : Change) → Contains (made_by New (changed c)) c
made_in_new (first u) = Contains-first (first u) (second u ∷ [])
made_in_new (second u) = Contains-rest (first u) (second u ∷ []) (second u) (Contains-first (second u) [])

not_first : (u : ℕ) → first u ≢ second u
not_first u e = cc

made_first : (phase : Phase) (u : ℕ) → Contains (made_by phase u) (second u) → Contains (made_by phase u) (first u)
made_first Old u inside = absurd (Contains-none (second u) inside)
made_first Middle u inside = absurd (not_first u (contains_one (first u) (second u) inside))
made_first New u inside = Contains-first (first u) (second u ∷ [])

-- ---- the changes of a state ----

module _ (n : ℕ) (ranks : List ℕ) (state : State) (ranking : IsRanking n ranks) (done : AreDoneBefore n ranks state) where
  abbrev made_on : ℕ → List Change
  made_on u = made_by (state u) u

  abbrev made_along : List ℕ → List Change
  made_along order = flat_map made_on order

  lists : IsOrder n (flat_of ranks)
  lists = flat_lists n ranks ranking

  -- a change along an order is one of its router there
  along_own : (order : List ℕ) (c : Change) → Contains (made_along order) c → Contains (made_on (changed c)) c × Contains order (changed c)
  along_own order c inside =
      let at = Contains-flat_map made_on order c inside in
      let own : at.item ≡ changed c = sym (made_own (state at.item) at.item c at.inside) in
      (subst (λ (u : ℕ). Contains (made_on u) c) own at.inside, subst (λ (u : ℕ). Contains order u) own at.among)

  below_all : (c : Change) → Contains (made_along (flat_of ranks)) c → changed c < n
  below_all c inside = (lists.all (changed c)).0 (along_own (flat_of ranks) c inside).1

  among_all : (u : ℕ) (c : Change) → u < n → Contains (made_on u) c → Contains (made_along (flat_of ranks)) c
  among_all u c below inside = Contains-in_flat_map made_on (flat_of ranks) u c ((lists.all u).1 below) inside

  one_alone : (c : Change) → AllPairs (MayPrecede (router_times all_old ranks)) (c ∷ [])
  one_alone c = pairs_more (MayPrecede (router_times all_old ranks)) c [] (λ d none. absurd (Contains-none d none))
      (pairs_none (MayPrecede (router_times all_old ranks)))

  one_router : (phase : Phase) (u : ℕ) → AllPairs (MayPrecede (router_times all_old ranks)) (made_by phase u)
  one_router Old u = pairs_none (MayPrecede (router_times all_old ranks))
  one_router Middle u = one_alone (first u)
  one_router New u = pairs_more (MayPrecede (router_times all_old ranks)) (first u) (second u ∷ [])
      (λ d inside. subst (MayPrecede (router_times all_old ranks) (first u)) (contains_one (second u) d inside)
      (first_precedes (router_times all_old ranks) u (omega arith)))
      (one_alone (second u))

  in_turn_along : (order : List ℕ) → AllPairs (InWaveOrder ranks) order → AllPairs (MayPrecede (router_times all_old ranks)) (made_along order)
  in_turn_along [] turns = pairs_none (MayPrecede (router_times all_old ranks))
  in_turn_along (u ∷ order) turns =
      pairs_append (MayPrecede (router_times all_old ranks)) (made_on u) (made_along order) (one_router (state u) u)
      (in_turn_along order (pairs_rest (InWaveOrder ranks) u order turns))
      (λ c d here there.
      let own : changed c ≡ u = made_own (state u) u c here in
      let turn = pairs_first (InWaveOrder ranks) u order turns (changed d) (along_own order d there).1 in
      let wave : rank_of ranks u ≤ rank_of ranks (changed d) = turn.wave in
      let place : rank_of ranks (changed c) ≡ rank_of ranks u = ap (rank_of ranks) own in
      precede_apart (router_times all_old ranks) c d (λ same. turn.apart (sym own ∙ same)) (omega (arith, wave, place)))

  front : AreInFront n ranks (made_along (flat_of ranks))
  front = record {
    in_turn = in_turn_along (flat_of ranks) (flat_in_turn ranks);
    below = below_all;
    earlier = λ c d here below lower.
        let begun = made_begun (state (changed c)) (changed c) c (along_own (flat_of ranks) c here).0 in
        let is_new : state (changed d) ≡ New = done (changed c) (changed d) (below_all c here) below lower begun in
        among_all (changed d) d below (subst (λ (p : Phase). Contains (made_by p (changed d)) d) (sym is_new) (made_in_new d));
    halves = λ u here. among_all u (first u) (below_all (second u) here)
        (made_first (state u) u (along_own (flat_of ranks) (second u) here).0);
  }

  pub begin_along : BeginRun n ranks (flat_map (λ (u : ℕ). made_by (state u) u) (flat_of ranks))
  begin_along = run_of_front n ranks (made_along (flat_of ranks)) ranking front

  -- how many of them are made on a router
  count_as : (u : ℕ) (phase : Phase) → u < n → state u ≡ phase → changes_on u (map changed (made_along (flat_of ranks))) ≡ made_in phase
  count_as u Old below is = is_none n ranks (made_along (flat_of ranks)) u front (λ here.
      Contains-none (first u) (subst (λ (p : Phase). Contains (made_by p u) (first u)) is (along_own (flat_of ranks) (first u) here).0))
  count_as u Middle below is = is_one n ranks (made_along (flat_of ranks)) u front
      (among_all u (first u) below (subst (λ (p : Phase). Contains (made_by p u) (first u)) (sym is) (Contains-first (first u) [])))
      (λ here. not_first u (contains_one (first u) (second u)
      (subst (λ (p : Phase). Contains (made_by p u) (second u)) is (along_own (flat_of ranks) (second u) here).0)))
  count_as u New below is = is_both n ranks (made_along (flat_of ranks)) u front
      (among_all u (first u) below (subst (λ (p : Phase). Contains (made_by p u) (first u)) (sym is) (made_in_new (first u))))
      (among_all u (second u) below (subst (λ (p : Phase). Contains (made_by p u) (second u)) (sym is) (made_in_new (second u))))

  pub count_along : (u : ℕ) → u < n →
      changes_on u (map changed (flat_map (λ (v : ℕ). made_by (state v) v) (flat_of ranks))) ≡ made_in (state u)
  count_along u below = count_as u (state u) below refl

  -- so it is a state of a run
  pub reached_along : IsStateOf n all_old (router_times all_old ranks) state
  reached_along =
      let changes : List Change = made_along (flat_of ranks) in
      let front_is : take (length changes) (changes ++ begin_along.rest) ≡ changes =
      take-append-le (length changes) changes begin_along.rest (omega arith) ∙ take_all (length changes) changes (omega arith) in
      record {
        run = changes ++ begin_along.rest;
        is_run = begin_along.is_run;
        k = length changes;
        after = λ u below.
            let count : 0 + changes_on u (map changed changes) ≡ made_in (state u) = zero-add (changes_on u (map changed changes)) ∙ count_along u below in
            sym (ap (λ (l : List Change). state_after all_old l u) front_is ∙ ap phase_after count ∙ phase_reached (state u));
      }

-- ---- the lines of a journal ----

name_byte : (b : ℕ) → IsNameByte b → IsWordByte b
name_byte b is = IsWordByte-above_blank b (omega (arith, is))

module _ (net : Network) (network : IsNetwork net) (state : State) where
  named_on : (u : ℕ) → u < length net → IsNamed net (name_on net u) u
  named_on u below =
      let at = configured_at net u below in
      let is : name_on net u ≡ at.0.name = ap (by_configuration (λ (c : Configuration). c.name)) at.1 in
      subst (λ (name : List ℕ). IsNamed net name u) (sym is) (named_as net u at.0 at.1)

  name_word : (u : ℕ) → u < length net → IsPrintedWord (name_on net u)
  name_word u below =
      let at = configured_at net u below in
      let is : name_on net u ≡ at.0.name = ap (by_configuration (λ (c : Configuration). c.name)) at.1 in
      let whole : IsConfiguration at.0 = HasConfiguration-keeps net u at.0 network at.1 in
      subst IsPrintedWord (sym is) (record { some = whole.name.some; bytes = All-weaker IsNameByte IsWordByte name_byte at.0.name whole.name.bytes })

  change_fine : (u : ℕ) (half : Half) → u < length net → IsPrintedLine (name_on net u ++ ending_of half)
  change_fine u First below =
      (words_make_lines (name_on net u ∷ codes "1" ∷ [])
      (All-cons IsPrintedWord (name_on net u) (codes "1" ∷ []) (name_word u below)
      (All-cons IsPrintedWord (codes "1") [] (plain_word (codes "1") (omega arith) refl) (All-nil IsPrintedWord)))).0
  change_fine u Second below =
      (words_make_lines (name_on net u ∷ codes "2" ∷ [])
      (All-cons IsPrintedWord (name_on net u) (codes "2" ∷ []) (name_word u below)
      (All-cons IsPrintedWord (codes "2") [] (plain_word (codes "2") (omega arith) refl) (All-nil IsPrintedWord)))).0

  header_fine : IsPrintedLine journal_header
  header_fine =
      (words_make_lines (codes "journal" ∷ codes "1" ∷ [])
      (All-cons IsPrintedWord (codes "journal") (codes "1" ∷ []) (plain_word (codes "journal") (omega arith) refl)
      (All-cons IsPrintedWord (codes "1") [] (plain_word (codes "1") (omega arith) refl) (All-nil IsPrintedWord)))).0

  router_fine : (u : ℕ) (phase : Phase) → u < length net → All IsPrintedLine (changes_told_in phase (name_on net u))
  router_fine u Old below = All-nil IsPrintedLine
  router_fine u Middle below = All-cons IsPrintedLine (name_on net u ++ ending_of First) [] (change_fine u First below) (All-nil IsPrintedLine)
  router_fine u New below =
      All-cons IsPrintedLine (name_on net u ++ ending_of First) ((name_on net u ++ ending_of Second) ∷ []) (change_fine u First below)
      (All-cons IsPrintedLine (name_on net u ++ ending_of Second) [] (change_fine u Second below) (All-nil IsPrintedLine))

  along_fine : (order : List ℕ) → All (λ u. u < length net) order → All IsPrintedLine (lines_along net state order)
  along_fine [] below = All-nil IsPrintedLine
  along_fine (u ∷ order) below =
      All-append IsPrintedLine (changes_told_in (state u) (name_on net u)) (lines_along net state order)
      (router_fine u (state u) (All-head (λ v. v < length net) u order below))
      (along_fine order (All-tail (λ v. v < length net) u order below))

  tells : (u : ℕ) (half : Half) → u < length net → TellsChange net (name_on net u ++ ending_of half) (change_of u half)
  tells u half below = record { name = name_on net u; router = u; half = half; bytes = refl; named = named_on u below; is = refl }

  router_told : (u : ℕ) (phase : Phase) → u < length net → AllZip (TellsChange net) (changes_told_in phase (name_on net u)) (made_by phase u)
  router_told u Old below = tt
  router_told u Middle below = (tells u First below, tt)
  router_told u New below = (tells u First below, (tells u Second below, tt))

  along_told : (order : List ℕ) → All (λ u. u < length net) order →
      AllZip (TellsChange net) (lines_along net state order) (flat_map (λ (u : ℕ). made_by (state u) u) order)
  along_told [] below = tt
  along_told (u ∷ order) below =
      zip_append (TellsChange net) (changes_told_in (state u) (name_on net u)) (made_by (state u) u) (lines_along net state order)
      (flat_map (λ (v : ℕ). made_by (state v) v) order)
      (router_told u (state u) (All-head (λ v. v < length net) u order below))
      (along_told order (All-tail (λ v. v < length net) u order below))

-- the routers along the flat run are those of the network
pub flat_below : (n : ℕ) (ranks : List ℕ) → length ranks ≡ n → All (λ u. u < n) (flat_of ranks)
flat_below n ranks each k d within =
    let at : Contains (flat_of ranks) (get_or (flat_of ranks) k d) = Contains-get_or (flat_of ranks) k d within in
    let below = ((flat_is_order ranks).all (get_or (flat_of ranks) k d)).0 at in
    omega (arith, below, each)

-- the journal reaches the state
pub journal_reaches : (net : Network) (ranks : List ℕ) (state : State) → IsNetwork net → IsRanking (length net) ranks →
    AreDoneBefore (length net) ranks state → JournalReaches net ranks (state_journal net ranks state) state
journal_reaches net ranks state network ranking done =
    let n : ℕ = length net in
    let changes : List Change = flat_map (λ (u : ℕ). made_by (state u) u) (flat_of ranks) in
    let lines : List (List ℕ) = lines_along net state (flat_of ranks) in
    let below : All (λ u. u < n) (flat_of ranks) = flat_below n ranks ranking.each in
    let counts : List ℕ = map (λ (u : ℕ). made_in (state u)) (numbers_below n) in
    let long : length counts ≡ n = length-map (numbers_below n) (λ (u : ℕ). made_in (state u)) ∙ length-range_with_len 0 n in
    let made : (u : ℕ) → u < n → get_or counts u 0 ≡ made_in (state u) =
    λ u within. get_or-map (λ (v : ℕ). made_in (state v)) (numbers_below n) u 0 0
    (subst (λ m. u < m) (sym (length-range_with_len 0 n)) within)
    ∙ ap (λ v. made_in (state v)) (get_or-range_with_len 0 n u 0 within ∙ zero-add u) in
    record {
      changes = length changes;
      done = counts;
      made = record { each = long; made = made };
      place = record {
        lines = lines;
        all = (lines_read_back (journal_header ∷ lines)
            (All-cons IsPrintedLine journal_header lines (header_fine net network state) (along_fine net network state (flat_of ranks) below))).texts;
        changes = changes;
        count = refl;
        replayed = record {
          told = along_told net network state (flat_of ranks) below;
          begin = begin_along n ranks state ranking done;
          counts = record { each = long; count = λ u within. made u within ∙ sym (count_along n ranks state ranking done u within) };
        };
      };
    }
