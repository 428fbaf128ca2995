-- What is printed of a wave list reads back.
use Rattle.std.proofs.lemmas.Grind.{common_steps}
use Rattle.std.proofs.Common.{◌≡◌, ◌≢◌, ℕ, ◌+◌, ◌<◌, true, false, Some, List, [], ◌∷◌, ◌++◌, length, get_or}
use Rattle.std.proofs.Common.{map, Contains, refl, sym, ap, subst, ◌∙◌, ⊎_elim, arith, append-nil}
use Rattle.std.specs.Prelude.{codes, bytes_eq, nat_lt}
use Rattle.std.specs.List.{All, AllZip, list_all, slice_split}
use Rattle.std.proofs.lemmas.Bool.{and_from, cases_lt, lt-ltb, ltb-true}
use Rattle.std.proofs.lemmas.Bool.Decides.{nat_tests}
use Rattle.std.proofs.lemmas.List.{append_assoc, get_or-map, get_or_past, length-map, map_push}
use Rattle.std.proofs.lemmas.Option.{get_or_from_slice_get}
use Rattle.std.proofs.lemmas.Slice.Zip.{AllZip-long}
use Rattle.std.proofs.lemmas.List.Elements.{All-append, All-cons, All-contains, All-contains_itself, All-head, All-map, All-nil, All-tail, All-weaker}
use Rattle.std.proofs.lemmas.List.Folds.{flat_map-map}
use Rattle.std.proofs.lemmas.List.FromFn.{length-range_with_len, get_or-range_with_len}
use Rattle.std.proofs.lemmas.List.Splits.{slice_split_at, slice_split_none}
use Rattle.std.proofs.lemmas.List.Sums.{AllPass-from_list_all, list_all-from_AllPass}
use Rattle.net_addr.specs.Blanks.{is_blank}
use Rattle.net_model.specs.Configuration.{Configuration, IsConfiguration, IsNameByte}
use Rattle.net_model.specs.Lookups.{IsNamed}
use Rattle.net_model.specs.Network.{Network}
use Rattle.net_model.specs.Refusals.{IsNetwork}
use Rattle.net_model.specs.RouterNames.{names_of}
use Rattle.net_model.proofs.Names.{named_from}
use Rattle.net_model.proofs.Members.{Contains-in_map, Contains-none}
use Rattle.order_core.specs.Orders.{IsOrder}
use Rattle.order_core.specs.Rankings.{IsRanking, rank_of, wave_count, wave_of, numbers_below, flat_of}
use Rattle.order_core.proofs.WaveLists.{flat_is_order, numbers_more, wave_routers, wave_some}
use Rattle.printed_lines.specs.Words.{IsWordByte, IsPrintedWord, spaced, joined}
use Rattle.printed_lines.specs.Texts.{IsPrintedLine, text_of}
use Rattle.printed_lines.proofs.LineFacts.{lines_read_back}
use Rattle.printed_lines.proofs.WordFacts.{words_make_lines}
use Rattle.step_scripts.specs.WaveLines.{header_of, are_names, names_behind}
use Rattle.step_scripts.specs.WaveFiles.{all_in, wave_at, AreOfEach, AreWaves, NamesWaves}
use Rattle.step_scripts.specs.WavesTexts.{waves_in, AreOneOfEach, names_at, named_line, wave_lines, wave_list_text, waves_text}
use Rattle.step_scripts.specs.declared.version.Version.TheVariants.{Two}
use Rattle.step_scripts.proofs.Routers.{has_name}
use Rattle.step_scripts.proofs.WaveLineFacts.{Says}
use Rattle.step_scripts.proofs.Zips.{zip_at}

no_blank : (b : ℕ) → IsWordByte b → is_blank b ≡ false
no_blank b byte =
    let no_space : b ≢ 32 = byte.no_space in
    let no_tab : b ≢ 9 = byte.no_tab in
    grind (arith, nat_tests)

no_blanks : (word : List ℕ) → IsPrintedWord word → All (λ b. is_blank b ≡ false) word
no_blanks word fine = All-weaker IsWordByte (λ b. is_blank b ≡ false) no_blank word fine.bytes

-- the pieces of joined words are these words
pieces_are : (word : List ℕ) (more : List (List ℕ)) → IsPrintedWord word → All IsPrintedWord more →
    slice_split is_blank (word ++ spaced more) ≡ word ∷ more
pieces_are word [] fine others = ap (slice_split is_blank) (append-nil word) ∙ slice_split_none is_blank word (no_blanks word fine)
pieces_are word (next ∷ more) fine others =
    slice_split_at is_blank word 32 (next ++ spaced more) (no_blanks word fine) refl
    ∙ ap (λ (pieces : List (List ℕ)). word ∷ pieces) (pieces_are next more (All-head IsPrintedWord next more others)
    (All-tail IsPrintedWord next more others))

-- words that are printed are names
names_are : (words : List (List ℕ)) → 0 < length words → All IsPrintedWord words → are_names words ≡ true
names_are words some fine = grind (arith, common_steps, All-weaker, and_from, list_all-from_AllPass, lt-ltb)

-- a word and names, joined by one blank each, have these names behind this word
behind_joined : (word : List ℕ) (names : List (List ℕ)) → bytes_eq word word ≡ true → IsPrintedWord word → 0 < length names →
    All IsPrintedWord names →
    names_behind word (joined (word ∷ names)) ≡ Some names
behind_joined word names same fine some words = grind (arith, common_steps, and_from, names_are, pieces_are)

-- a word of bytes above the blanks can be printed
above_blanks : (b : ℕ) → 32 < b → IsWordByte b
above_blanks b l = grind (arith, common_steps)

pub plain_word : (word : List ℕ) → 0 < length word → list_all (λ b. nat_lt 32 b) word ≡ true → IsPrintedWord word
plain_word word some all = grind (arith, common_steps, All-weaker, AllPass-from_list_all, above_blanks, ltb-true)

name_byte : (b : ℕ) → IsNameByte b → IsWordByte b
name_byte b is = above_blanks b (omega (arith, is))

-- the words that lines begin with
wave_word : IsPrintedWord (codes "wave")
wave_word = plain_word (codes "wave") (omega arith) refl

chain_word : IsPrintedWord (codes "chain")
chain_word = plain_word (codes "chain") (omega arith) refl

header_line : IsPrintedLine (header_of Two)
header_line = grind (arith, common_steps, All-cons, All-nil, plain_word, words_make_lines)

-- what holds of each wave of a ranking
each_wave : (ranks : List ℕ) (P : List ℕ → Type 0) → ((w : ℕ) → w < wave_count ranks → P (wave_of ranks w)) → All P (waves_in ranks)
each_wave ranks P holds =
    All-map P (wave_of ranks) (numbers_below (wave_count ranks)) (λ k d l.
    let below : k < wave_count ranks = subst (λ n. k < n) (length-range_with_len 0 (wave_count ranks)) l in
    let at : k ≡ get_or (numbers_below (wave_count ranks)) k d = omega (arith, get_or-range_with_len 0 (wave_count ranks) k d below) in
    subst (λ w. P (wave_of ranks w)) at (holds k below))

pub waves_long : (ranks : List ℕ) → length (waves_in ranks) ≡ wave_count ranks
waves_long ranks = length-map (numbers_below (wave_count ranks)) (wave_of ranks) ∙ length-range_with_len 0 (wave_count ranks)

pub wave_there : (ranks : List ℕ) (w : ℕ) → w < wave_count ranks → wave_at (waves_in ranks) w ≡ wave_of ranks w
wave_there ranks w below =
    let number = get_or-range_with_len 0 (wave_count ranks) w 0 below in
    let same : get_or (numbers_below (wave_count ranks)) w 0 ≡ w = omega (arith, number) in
    get_or-map (wave_of ranks) (numbers_below (wave_count ranks)) w 0 [] (subst (λ n. w < n) (sym (length-range_with_len 0 (wave_count ranks))) below)
    ∙ ap (wave_of ranks) same

-- a router of wave w has this rank
wave_rank : (ranks : List ℕ) (w u : ℕ) → Contains (wave_at (waves_in ranks) w) u → rank_of ranks u ≡ w
wave_rank ranks w u c =
    ⊎_elim
    (λ below. ((wave_routers ranks w u).0 (subst (λ l. Contains l u) (wave_there ranks w below) c)).1)
    (λ past. absurd (Contains-none u (subst (λ l. Contains l u) (get_or_past (waves_in ranks) w [] (omega (arith, past, waves_long ranks))) c)))
    (cases_lt w (wave_count ranks))

-- the waves, end to end, are the flat run
waves_flat : (ranks : List ℕ) → all_in (waves_in ranks) ≡ flat_of ranks
waves_flat ranks = flat_map-map (λ wave. wave) (wave_of ranks) (numbers_below (wave_count ranks))

count_some : (ranks : List ℕ) → 0 < length ranks → 0 < wave_count ranks
count_some [] some = absurd (omega (arith, some))
count_some (rank ∷ ranks) some = omega arith

-- the routers of a wave are below the count
pub wave_below : (ranks : List ℕ) (w n : ℕ) → length ranks ≡ n → All (λ u. u < n) (wave_of ranks w)
wave_below ranks w n each =
    All-weaker (Contains (wave_of ranks w)) (λ u. u < n) (λ u c. subst (λ m. u < m) each ((wave_routers ranks w u).0 c).0) (wave_of ranks w)
    (All-contains_itself (wave_of ranks w))

-- and so are those of a chain
pub chain_routers : (ranks chain : List ℕ) (n : ℕ) → length ranks ≡ n → AreOneOfEach ranks chain → All (λ u. u < n) chain
chain_routers ranks chain n long each k d l =
    let waves = waves_in ranks in
    let within : k < length waves = omega (arith, l, AllZip-long (λ (wave : List ℕ) (u : ℕ). Contains wave u) waves chain each) in
    All-contains (λ u. u < n) (get_or waves k []) (get_or chain k d) (each_wave ranks (All (λ u. u < n)) (λ w _. wave_below ranks w n long) k [] within)
    (zip_at (λ (wave : List ℕ) (u : ℕ). Contains wave u) waves chain k [] d each within)

-- the text with one more wave
pub text_more : (names : List (List ℕ)) (ranks : List ℕ) (w : ℕ) →
    text_of (header_of Two ∷ wave_lines names (map (wave_of ranks) (numbers_below w))) ++ named_line names (codes "wave") (wave_of ranks w) ++ 10 ∷ []
    ≡ text_of (header_of Two ∷ wave_lines names (map (wave_of ranks) (numbers_below (w + 1))))
text_more names ranks w = grind (arith, common_steps, append_assoc, map_push, numbers_more)

module _ (net : Network) (network : IsNetwork net) where
  abbrev Below : ℕ → Type 0
  Below u = u < length net

  -- the name of a router stands for it
  own_name : (u : ℕ) → u < length net → IsNamed net (get_or (names_of net) u []) u
  own_name u l =
      let d = (has_name net u l).1.config in
      named_from net (get_or (names_of net) u []) u d l (sym (get_or-map (λ (c : Configuration). c.name) net u d [] l))

  -- and is a word
  name_word : (u : ℕ) → u < length net → IsPrintedWord (get_or (names_of net) u [])
  name_word u l =
      let its = own_name u l in
      let same = get_or_from_slice_get net u its.config its.config its.router in
      let whole = subst IsConfiguration same (network.configurations u its.config l) in
      subst IsPrintedWord its.name_is (record { some = whole.name.some; bytes = All-weaker IsNameByte IsWordByte name_byte its.config.name whole.name.bytes })

  names_words : (routers : List ℕ) → All Below routers → All IsPrintedWord (names_at (names_of net) routers)
  names_words routers below = All-map IsPrintedWord (λ u. get_or (names_of net) u []) routers
      (All-weaker Below (λ u. IsPrintedWord (get_or (names_of net) u [])) name_word routers below)

  named_zip : (routers : List ℕ) → All Below routers → AllZip (IsNamed net) (names_at (names_of net) routers) routers
  named_zip [] below = tt
  named_zip (u ∷ routers) below = (own_name u (All-head Below u routers below), named_zip routers (All-tail Below u routers below))

  waves_zip : (waves : List (List ℕ)) → All (All Below) waves → AllZip (AllZip (IsNamed net)) (map (names_at (names_of net)) waves) waves
  waves_zip [] below = tt
  waves_zip (wave ∷ waves) below = (named_zip wave (All-head (All Below) wave waves below), waves_zip waves (All-tail (All Below) wave waves below))

  some_named : (routers : List ℕ) → 0 < length routers → 0 < length (names_at (names_of net) routers)
  some_named routers some = omega (arith, some, length-map routers (λ (u : ℕ). get_or (names_of net) u []))

  -- the line of a wave says it
  lines_say : (waves : List (List ℕ)) → All (All Below) waves → All (λ wave. 0 < length wave) waves →
      AllZip (Says Two) (wave_lines (names_of net) waves) (map (names_at (names_of net)) waves)
  lines_say [] below some = tt
  lines_say (wave ∷ waves) below some = (
    behind_joined (codes "wave") (names_at (names_of net) wave) refl wave_word (some_named wave (All-head (λ (w : List ℕ). 0 < length w) wave waves some))
        (names_words wave (All-head (All Below) wave waves below)),
    lines_say waves (All-tail (All Below) wave waves below) (All-tail (λ (w : List ℕ). 0 < length w) wave waves some),
  )

  line_printed : (word : List ℕ) (routers : List ℕ) → IsPrintedWord word → All Below routers → IsPrintedLine (named_line (names_of net) word routers)
  line_printed word routers fine below =
      (words_make_lines (word ∷ names_at (names_of net) routers) (All-cons IsPrintedWord word (names_at (names_of net) routers) fine
      (names_words routers below))).0

  lines_printed : (waves : List (List ℕ)) → All (All Below) waves → All IsPrintedLine (wave_lines (names_of net) waves)
  lines_printed waves below = All-map IsPrintedLine (named_line (names_of net) (codes "wave")) waves
      (All-weaker (All Below) (λ wave. IsPrintedLine (named_line (names_of net) (codes "wave") wave)) (λ wave b.
      line_printed (codes "wave") wave wave_word b) waves below)

  -- the names of a chain are names of each wave
  chain_each : (waves : List (List ℕ)) (chain : List ℕ) → AllZip (λ (wave : List ℕ) (u : ℕ). Contains wave u) waves chain →
      AreOfEach (map (names_at (names_of net)) waves) (names_at (names_of net) chain)
  chain_each [] [] each = tt
  chain_each [] (u ∷ chain) each = absurd each
  chain_each (wave ∷ waves) [] each = absurd each
  chain_each (wave ∷ waves) (u ∷ chain) each =
      (Contains-in_map (λ (v : ℕ). get_or (names_of net) v []) wave u each.0, chain_each waves chain each.1)

  module _ (ranks : List ℕ) (ranking : IsRanking (length net) ranks) where
    waves_below : All (All Below) (waves_in ranks)
    waves_below = each_wave ranks (All Below) (λ w _. wave_below ranks w (length net) ranking.each)

    waves_some : All (λ wave. 0 < length wave) (waves_in ranks)
    waves_some = each_wave ranks (λ wave. 0 < length wave) (λ w l. wave_some (length net) ranks w ranking l)

    waves_are : AreWaves net (map (names_at (names_of net)) (waves_in ranks)) ranks
    waves_are = record {
      routers = waves_in ranks;
      named = waves_zip (waves_in ranks) waves_below;
      once = subst (IsOrder (length net)) (sym (waves_flat ranks)) (subst (λ n. IsOrder n (flat_of ranks)) ranking.each (flat_is_order ranks));
      each = ranking.each;
      seats = wave_rank ranks;
    }

    -- without a chain
    pub names_list : NamesWaves net (wave_list_text (names_of net) (waves_in ranks)) Two ranks
    names_list =
        let lines = wave_lines (names_of net) (waves_in ranks) in
        let printed = All-cons IsPrintedLine (header_of Two) lines header_line (lines_printed (waves_in ranks) waves_below) in
        record {
          lines = lines;
          ending = [];
          whole = (lines_read_back (header_of Two ∷ lines) printed).texts ∙ ap (λ l. header_of Two ∷ l) (sym (append-nil lines));
          waves = map (names_at (names_of net)) (waves_in ranks);
          each = lines_say (waves_in ranks) waves_below waves_some;
          ends = tt;
          are = waves_are;
        }

    pub names_waves : 0 < length net → (chain : List ℕ) → AreOneOfEach ranks chain → NamesWaves net (waves_text (names_of net) ranks chain) Two ranks
    names_waves some chain each =
        let below = chain_routers ranks chain (length net) ranking.each each in
        let long = AllZip-long (λ (wave : List ℕ) (u : ℕ). Contains wave u) (waves_in ranks) chain each in
        let ranked : 0 < wave_count ranks = count_some ranks (subst (λ n. 0 < n) (sym ranking.each) some) in
        let chained : 0 < length chain = omega (arith, long, waves_long ranks, ranked) in
        let last = named_line (names_of net) (codes "chain") chain in
        let lines = wave_lines (names_of net) (waves_in ranks) in
        let printed = All-cons IsPrintedLine (header_of Two) (lines ++ last ∷ []) header_line
        (All-append IsPrintedLine lines (last ∷ []) (lines_printed (waves_in ranks) waves_below)
        (All-cons IsPrintedLine last [] (line_printed (codes "chain") chain chain_word below) (All-nil IsPrintedLine))) in
        record {
          lines = lines;
          ending = last ∷ [];
          whole = (lines_read_back (header_of Two ∷ (lines ++ last ∷ [])) printed).texts;
          waves = map (names_at (names_of net)) (waves_in ranks);
          each = lines_say (waves_in ranks) waves_below waves_some;
          ends = record {
            names = names_at (names_of net) chain;
            chain = behind_joined (codes "chain") (names_at (names_of net) chain) refl chain_word (some_named chain chained) (names_words chain below);
            each = chain_each (waves_in ranks) chain each;
          };
          are = waves_are;
        }

pub waves_read_back : (net : Network) (ranks chain : List ℕ) → IsNetwork net → 0 < length net → IsRanking (length net) ranks →
    AreOneOfEach ranks chain →
    NamesWaves net (waves_text (names_of net) ranks chain) Two ranks
waves_read_back net ranks chain network some ranking each = names_waves net network ranks ranking some chain each

pub lists_read_back : (net : Network) (ranks : List ℕ) → IsNetwork net → IsRanking (length net) ranks →
    NamesWaves net (wave_list_text (names_of net) (waves_in ranks)) Two ranks
lists_read_back net ranks network ranking = names_list net network ranks ranking
