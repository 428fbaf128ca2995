-- What is printed of a wave list of single changes reads back.
use Rattle.std.proofs.Common.{◌≡◌, ◌≢◌, ℕ, zero, suc, ◌-◌, ◌+◌, ◌*◌, ◌/◌, ◌%◌, ◌<◌, ◌≤◌, Bool, true, false, cond, if◌then◌else◌, nat_lt, Option, Some, None, List, [], ◌∷◌, ◌++◌}
use Rattle.std.proofs.Common.{length, get_or, take, map, All, Contains, refl, sym, ap, subst, ◌∙◌, ⊎_elim, arith, append-nil}
use Rattle.std.specs.Prelude.{codes, bytes_eq, replicate}
use Rattle.std.specs.List.{AllZip, list_all, slice_split}
use Rattle.std.specs.List.Sorted.{IsStrictlyIncreasing}
use Rattle.std.proofs.lemmas.Bool.{and_from, cases_lt, lt-ltb}
use Rattle.std.proofs.lemmas.Bool.Decides.{nat_tests}
use Rattle.std.proofs.lemmas.Grind.{flat_map-append}
use Rattle.std.proofs.lemmas.List.{append_assoc, get_or_default, get_or-map, get_or_past, get_or-take, length-append, length-map, length-take-le, map_more, map_push}
use Rattle.std.proofs.lemmas.List.Elements.{All-append, All-cons, All-contains_itself, All-head, All-map, All-nil, All-tail, All-weaker, Contains-get_or}
use Rattle.std.proofs.lemmas.List.Splits.{slice_split_at, slice_split_none}
use Rattle.std.proofs.lemmas.List.Sums.{list_all-from_AllPass}
use Rattle.std.proofs.lemmas.Slice.Zip.{AllZip-long}
use Rattle.net_addr.specs.Blanks.{is_blank}
use Rattle.net_model.specs.Configuration.{Configuration, IsNameByte, IsRouterName}
use Rattle.net_model.specs.Lookups.{IsNamed}
use Rattle.net_model.specs.Network.{Network}
use Rattle.net_model.specs.Refusals.{IsNetwork}
use Rattle.net_model.specs.RouterNames.{names_of}
use Rattle.net_model.proofs.Names.{named_from}
use Rattle.net_model.proofs.NetworkFacts.{HasConfiguration-keeps}
use Rattle.order_core.specs.Rankings.{numbers_below, rank_of, wave_count, wave_of}
use Rattle.order_core.proofs.WaveLists.{numbers_more, rank_below_count, wave_ascends, wave_routers, wave_some}
use Rattle.printed_lines.specs.Words.{IsWordByte, IsPrintedWord, spaced, joined}
use Rattle.printed_lines.specs.Texts.{IsPrintedLine, text_of}
use Rattle.printed_lines.proofs.LineFacts.{lines_read_back}
use Rattle.printed_lines.proofs.WordFacts.{words_make_lines}
use Rattle.step_scripts.specs.WaveLines.{are_names, named_pieces, names_behind, waves_on}
use Rattle.step_scripts.specs.WaveFiles.{AreOfEach}
use Rattle.step_scripts.specs.WavesTexts.{waves_in, AreOneOfEach}
use Rattle.step_scripts.specs.declared.version.Version.TheVariants.{Two}
use Rattle.step_scripts.proofs.Routers.{has_name}
use Rattle.step_scripts.proofs.TextFacts.{chain_routers, plain_word, wave_below, wave_there, waves_long}
use Rattle.step_scripts.proofs.Zips.{zip_at, zip_from}
use Rattle.change_orders.specs.ChangeWords.{IsChangeWord, change_word, NamesItem}
use Rattle.change_orders.specs.TwoFaults.{IsChainLineOf, IsWaveOf, two_header}
use Rattle.change_orders.specs.TwoFiles.{AreTwoWaves, NamesTwo}
use Rattle.change_orders.specs.TwoTexts.{item_word, items_line, two_text}
use Rattle.change_orders.specs.steps.Found.{AreSeated, AscendWhereFound, IsEarlyItem, IsItemFound}
use Rattle.change_orders.specs.steps.Standing.{HaveLedTo, TwoStanding, StandsIn}
use Rattle.change_orders.proofs.FoundItems.{seating}
use Rattle.change_orders.proofs.ReadTexts.{names_two}
use Rattle.change_orders.proofs.TakenLines.{chain_leads, stands_in_wave, start_leads}
use Rattle.change_orders.proofs.TakenWaves.{wave_leads}

-- ---- lines of words ----

no_blank : (b : ℕ) → IsWordByte b → is_blank b ≡ false
no_blank b byte =
    let no_space : b ≢ 32 = byte.no_space in
    let no_tab : b ≢ 9 = byte.no_tab in
    grind (arith, nat_tests)

no_blanks : (word : List ℕ) → IsPrintedWord word → All (λ b. is_blank b ≡ false) word
no_blanks word fine = All-weaker IsWordByte (λ b. is_blank b ≡ false) no_blank word fine.bytes

-- the pieces of joined words are these words
pieces_are : (word : List ℕ) (more : List (List ℕ)) → IsPrintedWord word → All IsPrintedWord more →
    slice_split is_blank (word ++ spaced more) ≡ word ∷ more
pieces_are word [] fine others = ap (slice_split is_blank) (append-nil word) ∙ slice_split_none is_blank word (no_blanks word fine)
pieces_are word (next ∷ more) fine others =
    slice_split_at is_blank word 32 (next ++ spaced more) (no_blanks word fine) refl
    ∙ ap (λ (pieces : List (List ℕ)). word ∷ pieces) (pieces_are next more (All-head IsPrintedWord next more others)
    (All-tail IsPrintedWord next more others))

names_are : (words : List (List ℕ)) → 0 < length words → All IsPrintedWord words → are_names words ≡ true
names_are words some fine =
    and_from (nat_lt 0 (length words)) (list_all (λ name. nat_lt 0 (length name)) words) (lt-ltb 0 (length words) some)
    (list_all-from_AllPass (λ name. nat_lt 0 (length name)) words
    (All-weaker IsPrintedWord (λ word. nat_lt 0 (length word) ≡ true) (λ word its. lt-ltb 0 (length word) its.some) words fine))

-- a word and words behind it, joined by one blank each, have these words behind this word
behind_joined : (word : List ℕ) (words : List (List ℕ)) → bytes_eq word word ≡ true → IsPrintedWord word → 0 < length words →
    All IsPrintedWord words → names_behind word (joined (word ∷ words)) ≡ Some words
behind_joined word words same fine some all =
    ap (named_pieces word) (pieces_are word words fine all)
    ∙ ap (λ (b : Bool). cond b (Some words) None) (and_from (bytes_eq word word) (are_names words) same (names_are words some all))

wave_word : IsPrintedWord (codes "wave")
wave_word = plain_word (codes "wave") (omega arith) refl

chain_word : IsPrintedWord (codes "chain")
chain_word = plain_word (codes "chain") (omega arith) refl

header_line : IsPrintedLine two_header
header_line =
    (words_make_lines (codes "order" ∷ codes "3" ∷ [])
    (All-cons IsPrintedWord (codes "order") (codes "3" ∷ []) (plain_word (codes "order") (omega arith) refl)
    (All-cons IsPrintedWord (codes "3") [] (plain_word (codes "3") (omega arith) refl) (All-nil IsPrintedWord)))).0

above_blanks : (b : ℕ) → 32 < b → IsWordByte b
above_blanks b l =
    record { no_space = λ e. omega (arith, e, l); no_tab = λ e. omega (arith, e, l); no_feed = λ e. omega (arith, e, l); no_return = λ e. omega (arith, e, l) }

-- the word of a change of a router can be printed
change_printed : (name : List ℕ) (c : ℕ) → IsRouterName name → IsPrintedWord (change_word name c)
change_printed name c fine = record {
  some = omega (arith, fine.some, length-append name (58 ∷ (48 + c) ∷ []));
  bytes = All-append IsWordByte name (58 ∷ (48 + c) ∷ [])
      (All-weaker IsNameByte IsWordByte (λ b is. above_blanks b (omega (arith, is))) name fine.bytes)
      (All-cons IsWordByte 58 ((48 + c) ∷ []) (above_blanks 58 (omega arith))
      (All-cons IsWordByte (48 + c) [] (above_blanks (48 + c) (omega arith)) (All-nil IsWordByte)));
}

-- ---- the waves of a ranking, one after the other ----

-- the ranks below k
abbrev lower : ℕ → ℕ → Option ℕ
lower k r = if nat_lt r k then Some r else None

abbrev ranks_below : ℕ → List ℕ → List (Option ℕ)
ranks_below k ranks = map (lower k) ranks

lower_below : (k r : ℕ) → r < k → lower k r ≡ Some r
lower_below k r l = ap (λ (b : Bool). if b then Some r else None) (lt-ltb r k l)

lower_not : (k r : ℕ) → k ≤ r → lower k r ≡ None
lower_not k r g =
    let test : nat_lt r k ≡ false = grind (arith, nat_tests) in
    ap (λ (b : Bool). if b then Some r else None) test

none_below : (ranks : List ℕ) → ranks_below 0 ranks ≡ replicate (length ranks) None
none_below [] = refl
none_below (r ∷ ranks) = λ i. lower_not 0 r (omega arith) i ∷ none_below ranks i

all_below : (k : ℕ) (ranks : List ℕ) → All (λ r. r < k) ranks → ranks_below k ranks ≡ map (λ (r : ℕ). Some r) ranks
all_below k [] all = refl
all_below k (r ∷ ranks) all = λ i. lower_below k r (All-head (λ r. r < k) r ranks all) i ∷ all_below k ranks (All-tail (λ r. r < k) r ranks all) i

below_at : (k : ℕ) (ranks : List ℕ) (i : ℕ) → i < length ranks → get_or (ranks_below k ranks) i None ≡ lower k (rank_of ranks i)
below_at k ranks i l = get_or-map (lower k) ranks i 0 None l

-- an ascending list ascends between any two places
climbs : (xs : List ℕ) → IsStrictlyIncreasing xs → (p n : ℕ) → p + suc n < length xs → get_or xs p 0 < get_or xs (p + suc n) 0
climbs xs up p zero l = subst (λ k. get_or xs p 0 < get_or xs k 0) (let e : p + 1 ≡ p + suc zero = omega arith in e) (up p (omega arith))
climbs xs up p (suc n) l =
    let before = climbs xs up p n (omega arith) in
    let next = up (p + suc n) (omega arith) in
    let place : p + suc n + 1 ≡ p + suc (suc n) = omega arith in
    let there = subst (λ k. get_or xs (p + suc n) 0 < get_or xs k 0) place next in
    omega (arith, before, there)

climbs_to : (xs : List ℕ) → IsStrictlyIncreasing xs → (p q : ℕ) → p < q → q < length xs → get_or xs p 0 < get_or xs q 0
climbs_to xs up p q before within =
    let place : p + suc (q - p - 1) ≡ q = omega arith in
    subst (λ k. get_or xs p 0 < get_or xs k 0) place (climbs xs up p (q - p - 1) (omega arith))

-- ranks below k + 1 are those below k, but for k itself
lower_more : (k r : ℕ) → r ≢ k → lower (k + 1) r ≡ lower k r
lower_more k r apart =
    ⊎_elim
    (λ (l : r < k). lower_below (k + 1) r (omega arith) ∙ sym (lower_below k r l))
    (λ g. lower_not (k + 1) r (omega arith) ∙ sym (lower_not k r g))
    (cases_lt r k)

module _ (net : Network) (network : IsNetwork net) (ranks : List ℕ) (two : AreTwoWaves (length net) ranks) where
  abbrev Below : ℕ → Type 0
  Below i = i < 2 * length net

  abbrev word : ℕ → List ℕ
  word = item_word (names_of net)

  each : length ranks ≡ 2 * length net
  each = two.ranking.each

  own_name : (u : ℕ) → u < length net → IsNamed net (get_or (names_of net) u []) u
  own_name u l =
      let d = (has_name net u l).1.config in
      named_from net (get_or (names_of net) u []) u d l (sym (get_or-map (λ (c : Configuration). c.name) net u d [] l))

  name_fine : (u : ℕ) → u < length net → IsRouterName (get_or (names_of net) u [])
  name_fine u l =
      let its = own_name u l in
      subst IsRouterName its.name_is (HasConfiguration-keeps net u its.config network its.router).name

  -- the word of an item names it, can be printed and has the form of a change's
  own_word : (i : ℕ) → i < 2 * length net → NamesItem net (word i) i
  own_word i l = record {
    router = i / 2;
    name = get_or (names_of net) (i / 2) [];
    named = own_name (i / 2) (omega arith);
    number = i % 2 + 1;
    is_number = (omega arith, omega arith);
    word_is = refl;
    item_is = omega arith;
  }

  word_printed : (i : ℕ) → i < 2 * length net → IsPrintedWord (word i)
  word_printed i l = change_printed (get_or (names_of net) (i / 2) []) (i % 2 + 1) (name_fine (i / 2) (omega arith))

  word_form : (i : ℕ) → i < 2 * length net → IsChangeWord (word i)
  word_form i l = record {
    name = get_or (names_of net) (i / 2) [];
    some = (let fine = name_fine (i / 2) (omega arith) in omega (arith, fine.some));
    number = i % 2 + 1;
    is_number = (omega arith, omega arith);
    word_is = refl;
  }

  words_printed : (items : List ℕ) → All Below items → All IsPrintedWord (map word items)
  words_printed items below = All-map IsPrintedWord word items (All-weaker Below (λ i. IsPrintedWord (word i)) word_printed items below)

  words_form : (items : List ℕ) → All Below items → All IsChangeWord (map word items)
  words_form items below = All-map IsChangeWord word items (All-weaker Below (λ i. IsChangeWord (word i)) word_form items below)

  words_found : (items : List ℕ) → All Below items → AllZip (IsItemFound net) (map word items) (map (λ (i : ℕ). Some i) items)
  words_found [] below = tt
  words_found (i ∷ items) below = (own_word i (All-head Below i items below), words_found items (All-tail Below i items below))

  line_printed : (first : List ℕ) (items : List ℕ) → IsPrintedWord first → All Below items → IsPrintedLine (items_line (names_of net) first items)
  line_printed first items fine below =
      (words_make_lines (first ∷ map word items) (All-cons IsPrintedWord first (map word items) fine (words_printed items below))).0

  line_says : (first : List ℕ) (items : List ℕ) → bytes_eq first first ≡ true → IsPrintedWord first → All Below items → 0 < length items →
      names_behind first (items_line (names_of net) first items) ≡ Some (map word items)
  line_says first items same fine below some =
      behind_joined first (map word items) same fine (omega (arith, some, length-map items word)) (words_printed items below)

  in_wave : (k : ℕ) → All Below (wave_of ranks k)
  in_wave k = wave_below ranks k (2 * length net) each

  -- the items of wave k get this wave
  module _ (k : ℕ) where
    abbrev wave : List ℕ
    wave = wave_of ranks k

    at_rank : (i : ℕ) → Contains wave i → (i < length ranks) × (rank_of ranks i ≡ k)
    at_rank i c = (wave_routers ranks k i).0 c

    apart : (p : ℕ) → p < length wave → Contains (take p wave) (get_or wave p 0) → ⊥
    apart p l c =
        let before : c.0 < p = omega (arith, c.1, length-take-le p wave (omega (arith, l))) in
        let item : ℕ = get_or wave p 0 in
        let same : get_or wave c.0 item ≡ item = sym (get_or-take p wave c.0 item before) ∙ c.2 in
        let first : get_or wave c.0 0 ≡ item = get_or_default wave c.0 0 item (omega (arith, before, l)) ∙ same in
        let up = climbs_to wave (wave_ascends ranks k) c.0 p before l in
        omega (arith, up, first)

    seated_wave : AreSeated (seating wave k (ranks_below k ranks) (ranks_below (k + 1) ranks))
    seated_wave = record {
      count = length-map ranks (lower (k + 1)) ∙ sym (length-map ranks (lower k));
      free = λ p l.
          let at = at_rank (get_or wave p 0) (Contains-get_or wave p 0 l) in
          below_at k ranks (get_or wave p 0) at.0 ∙ ap (lower k) at.1 ∙ lower_not k k (omega arith);
      once = apart;
      seated = λ i c.
          let at = at_rank i c in
          below_at (k + 1) ranks i at.0 ∙ ap (lower (k + 1)) at.1 ∙ lower_below (k + 1) k (omega arith);
      kept = λ i out. ⊎_elim
          (λ (l : i < length ranks). below_at (k + 1) ranks i l
          ∙ lower_more k (rank_of ranks i) (λ rank. out ((wave_routers ranks k i).1 (l, rank)))
          ∙ sym (below_at k ranks i l))
          (λ past. get_or_past (ranks_below (k + 1) ranks) i None (omega (arith, past, length-map ranks (lower (k + 1))))
          ∙ sym (get_or_past (ranks_below k ranks) i None (omega (arith, past, length-map ranks (lower k)))))
          (cases_lt i (length ranks));
    }

    none_early : (i : ℕ) → Contains wave i → IsEarlyItem (ranks_below (k + 1) ranks) k i → ⊥
    none_early i c e =
        let at = at_rank i c in
        let below : e.router < length net = omega (arith, at.0, each, e.is_second) in
        let turn = two.in_turn e.router below in
        let second : rank_of ranks (2 * e.router + 1) ≡ k = ap (rank_of ranks) (sym e.is_second) ∙ at.1 in
        let before : rank_of ranks (2 * e.router) < k = omega (arith, turn, second) in
        e.late (rank_of ranks (2 * e.router))
        (below_at (k + 1) ranks (2 * e.router) (omega (arith, below, each)) ∙ lower_below (k + 1) (rank_of ranks (2 * e.router)) (omega arith))
        before

    turned : All (λ i. IsEarlyItem (ranks_below (k + 1) ranks) k i → ⊥) wave
    turned = All-weaker (Contains wave) (λ i. IsEarlyItem (ranks_below (k + 1) ranks) k i → ⊥) none_early wave (All-contains_itself wave)

    item_found : (p a : ℕ) → p < length wave → get_or (map (λ (i : ℕ). Some i) wave) p None ≡ Some a → get_or wave p 0 ≡ a
    item_found p a l is = let at = get_or-map (λ (i : ℕ). Some i) wave p 0 None l in cc

    ascending : AscendWhereFound (map (λ (i : ℕ). Some i) wave) (length (map (λ (i : ℕ). Some i) wave))
    ascending p q a b before l one other =
        let long = length-map wave (λ (i : ℕ). Some i) in
        let first = item_found p a (omega (arith, long, before, l)) one in
        let second = item_found q b (omega (arith, long, l)) other in
        let up = climbs_to wave (wave_ascends ranks k) p q before (omega (arith, long, l)) in
        omega (arith, up, first, second)

  -- the lines of the first k waves
  abbrev lines_below : ℕ → List (List ℕ)
  lines_below k = map (items_line (names_of net) (codes "wave")) (map (wave_of ranks) (numbers_below k))

  abbrev stand : ℕ → TwoStanding
  stand k = record { ranks = ranks_below k ranks; waves = k; chained = false }

  lines_more : (k : ℕ) → lines_below (k + 1) ≡ lines_below k ++ items_line (names_of net) (codes "wave") (wave_of ranks k) ∷ []
  lines_more k =
      ap (λ l. map (items_line (names_of net) (codes "wave")) (map (wave_of ranks) l)) (numbers_more k)
      ∙ ap (map (items_line (names_of net) (codes "wave"))) (map_push (wave_of ranks) (numbers_below k) k)
      ∙ map_push (items_line (names_of net) (codes "wave")) (map (wave_of ranks) (numbers_below k)) (wave_of ranks k)

  led_to : (k : ℕ) → k ≤ wave_count ranks → HaveLedTo net (lines_below k) (stand k)
  led_to zero le =
      let none : ranks_below 0 ranks ≡ replicate (2 * length net) None = none_below ranks ∙ ap (λ n. replicate n None) each in
      subst (λ rs. HaveLedTo net [] (record { ranks = rs; waves = 0; chained = false })) (sym none) (start_leads net (length net) refl)
  led_to (suc k) le =
      let next : k + 1 ≡ suc k = omega arith in
      let below : k < wave_count ranks = omega arith in
      let items : List ℕ = wave_of ranks k in
      let some = wave_some (2 * length net) ranks k two.ranking below in
      let line : List ℕ = items_line (names_of net) (codes "wave") items in
      let says : IsWaveOf line (map word items) = record {
        says = line_says (codes "wave") items refl wave_word (in_wave k) some;
        changes = words_form items (in_wave k);
      } in
      let step = wave_leads net network.ascending (lines_below k) line (map word items) says (stand k) (led_to k (omega arith)) refl
      (map (λ (i : ℕ). Some i) items) (words_found items (in_wave k)) (ascending k) items refl (ranks_below (k + 1) ranks) (seated_wave k) (turned k) in
      subst (λ n. HaveLedTo net (lines_below n) (stand n)) next
      (subst (λ ls. HaveLedTo net ls (stand (k + 1))) (sym (lines_more k)) step)

  module _ (chain : List ℕ) (one_of : AreOneOfEach ranks chain) where
    chain_below : All Below chain
    chain_below = chain_routers ranks chain (2 * length net) each one_of

    chain_long : length chain ≡ wave_count ranks
    chain_long = AllZip-long (λ (w : List ℕ) (i : ℕ). Contains w i) (waves_in ranks) chain one_of ∙ waves_long ranks

    led : HaveLedTo net (lines_below (wave_count ranks)) (stand (wave_count ranks))
    led = led_to (wave_count ranks) (omega arith)

    -- an item of the chain stands in its wave
    stands : (k : ℕ) → k < wave_count ranks → StandsIn net (ranks_below (wave_count ranks) ranks) (get_or (map word chain) k []) k
    stands k l =
        let item : ℕ = get_or chain k 0 in
        let in_chain : k < length chain = omega (arith, l, chain_long) in
        let among = zip_at (λ (w : List ℕ) (i : ℕ). Contains w i) (waves_in ranks) chain k [] 0 one_of (omega (arith, l, waves_long ranks)) in
        let at = (wave_routers ranks k item).0 (subst (λ w. Contains w item) (wave_there ranks k l) among) in
        record {
          item = item;
          names = subst (λ w. NamesItem net w item) (sym (get_or-map word chain k 0 [] in_chain)) (own_word item (omega (arith, at.0, each)));
          rank = below_at (wave_count ranks) ranks item at.0 ∙ ap (lower (wave_count ranks)) at.1 ∙ lower_below (wave_count ranks) k l;
        }

    of_each : AreOfEach (waves_on Two (lines_below (wave_count ranks))) (map word chain)
    of_each = zip_from (λ (w : List (List ℕ)) (v : List ℕ). Contains w v) (waves_on Two (lines_below (wave_count ranks))) (map word chain) [] []
        (omega (arith, led.count, chain_long, length-map chain word))
        (λ k l. stands_in_wave net (lines_below (wave_count ranks)) (stand (wave_count ranks)) led (get_or (map word chain) k []) k
        (stands k (omega (arith, l, led.count))))

    printed : All IsPrintedLine (two_header ∷ (lines_below (wave_count ranks) ++ items_line (names_of net) (codes "chain") chain ∷ []))
    printed =
        All-cons IsPrintedLine two_header (lines_below (wave_count ranks) ++ items_line (names_of net) (codes "chain") chain ∷ []) header_line
        (All-append IsPrintedLine (lines_below (wave_count ranks)) (items_line (names_of net) (codes "chain") chain ∷ [])
        (All-map IsPrintedLine (items_line (names_of net) (codes "wave")) (waves_in ranks)
        (All-map (λ w. IsPrintedLine (items_line (names_of net) (codes "wave") w)) (wave_of ranks) (numbers_below (wave_count ranks))
        (λ k d l. line_printed (codes "wave") (wave_of ranks (get_or (numbers_below (wave_count ranks)) k d)) wave_word
        (in_wave (get_or (numbers_below (wave_count ranks)) k d)))))
        (All-cons IsPrintedLine (items_line (names_of net) (codes "chain") chain) [] (line_printed (codes "chain") chain chain_word chain_below)
        (All-nil IsPrintedLine)))

    pub text_names : 0 < length net → NamesTwo net (two_text (names_of net) ranks chain) ranks
    text_names some =
        let text : List ℕ = two_text (names_of net) ranks chain in
        let line : List ℕ = items_line (names_of net) (codes "chain") chain in
        let first_rank : Contains ranks (rank_of ranks 0) = Contains-get_or ranks 0 0 (omega (arith, some, each)) in
        let some_waves : 0 < length chain = omega (arith, chain_long, rank_below_count ranks (rank_of ranks 0) first_rank) in
        let says : IsChainLineOf line (map word chain) = record {
          says = line_says (codes "chain") chain refl chain_word chain_below some_waves;
          changes = words_form chain chain_below;
        } in
        let lead = chain_leads net (lines_below (wave_count ranks)) (stand (wave_count ranks)) led line (map word chain) says refl of_each in
        let whole = (lines_read_back (two_header ∷ (lines_below (wave_count ranks) ++ line ∷ [])) printed).texts in
        names_two net text (lines_below (wave_count ranks) ++ line ∷ [])
        (record { ranks = ranks_below (wave_count ranks) ranks; waves = wave_count ranks; chained = true })
        lead whole ranks (all_below (wave_count ranks) ranks
        (All-weaker (Contains ranks) (λ r. r < wave_count ranks) (rank_below_count ranks) ranks (All-contains_itself ranks)))

-- the text of a wave list names it
pub two_read_back : (net : Network) (ranks chain : List ℕ) → IsNetwork net → 0 < length net → AreTwoWaves (length net) ranks → AreOneOfEach ranks chain →
    NamesTwo net (two_text (names_of net) ranks chain) ranks
two_read_back net ranks chain network some two one_of = text_names net network ranks two chain one_of some

-- ---- writing ----

-- the line with one more word
pub line_more : (names : List (List ℕ)) (first : List ℕ) (items : List ℕ) (i d : ℕ) → i < length items →
    items_line names first (take (i + 1) items) ≡ items_line names first (take i items) ++ 32 ∷ item_word names (get_or items i d)
line_more names first items i d l =
    let more : map (item_word names) (take (i + 1) items) ≡ map (item_word names) (take i items) ++ item_word names (get_or items i d) ∷ [] =
    map_more (item_word names) items i d l in
    ap (λ ws. first ++ spaced ws) more
    ∙ ap (λ bs. first ++ bs) (flat_map-append (λ (word : List ℕ). 32 ∷ word) (map (item_word names) (take i items)) (item_word names (get_or items i d) ∷ [])
    ∙ ap (λ bs. spaced (map (item_word names) (take i items)) ++ bs) (append-nil (32 ∷ item_word names (get_or items i d))))
    ∙ sym (append_assoc first (spaced (map (item_word names) (take i items))) (32 ∷ item_word names (get_or items i d)))

-- the text with one more wave
pub text_more : (names : List (List ℕ)) (ranks : List ℕ) (w : ℕ) →
    text_of (two_header ∷ map (items_line names (codes "wave")) (map (wave_of ranks) (numbers_below w)))
    ++ items_line names (codes "wave") (wave_of ranks w) ++ 10 ∷ []
    ≡ text_of (two_header ∷ map (items_line names (codes "wave")) (map (wave_of ranks) (numbers_below (w + 1))))
text_more names ranks w =
    let lines = map (items_line names (codes "wave")) (map (wave_of ranks) (numbers_below w)) in
    let line = items_line names (codes "wave") (wave_of ranks w) in
    let more : map (items_line names (codes "wave")) (map (wave_of ranks) (numbers_below (w + 1))) ≡ lines ++ line ∷ [] =
    ap (λ l. map (items_line names (codes "wave")) (map (wave_of ranks) l)) (numbers_more w)
    ∙ ap (map (items_line names (codes "wave"))) (map_push (wave_of ranks) (numbers_below w) w)
    ∙ map_push (items_line names (codes "wave")) (map (wave_of ranks) (numbers_below w)) (wave_of ranks w) in
    append_assoc (text_of (two_header ∷ lines)) line (10 ∷ [])
    ∙ ap (λ l. text_of (two_header ∷ lines) ++ l) (sym (append-nil (line ++ 10 ∷ [])))
    ∙ sym (flat_map-append (λ (l : List ℕ). l ++ 10 ∷ []) (two_header ∷ lines) (line ∷ []))
    ∙ ap (λ l. text_of (two_header ∷ l)) (sym more)
