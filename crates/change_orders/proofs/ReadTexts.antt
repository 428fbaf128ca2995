-- What a text names or why it is refused, by the lines that were read.
use Rattle.std.proofs.Common.{◌≡◌, false, ℕ, ◌+◌, ◌*◌, ◌<◌, ◌≤◌, Some, None, MatchOption, List, [], ◌∷◌, ◌++◌, length, get_or, map, Contains}
use Rattle.std.proofs.Common.{refl, sym, ap, subst, ◌∙◌, ⊎_elim, inl, inr, arith, append-nil}
use Rattle.std.proofs.lemmas.List.{append_assoc, get_or_default, get_or-map, length-append, length-map}
use Rattle.std.specs.Prelude.{replicate}
use Rattle.std.specs.Str.Lines.{strip_carriage_return}
use Rattle.net_addr.specs.Lines.{line_pieces, line_texts, text_lines}
use Rattle.net_addr.proofs.JoinedFacts.{lines_of-length}
use Rattle.net_model.specs.Network.{Network}
use Rattle.net_model.proofs.Members.{Contains-map}
use Rattle.order_core.specs.Rankings.{rank_of}
use Rattle.step_scripts.specs.WaveLines.{waves_on}
use Rattle.step_scripts.specs.WaveFiles.{wave_at}
use Rattle.step_scripts.specs.declared.version.Version.TheVariants.{Two}
use Rattle.step_scripts.proofs.Reading.{lines_few}
use Rattle.step_scripts.proofs.Splits.{one_split, split_at}
use Rattle.change_orders.specs.ChangeWords.{NamesItem}
use Rattle.change_orders.specs.TwoFaults.{HasTwoFault, IsLeastTwoFault, IsTwoFaultBehind, IsTwoFaultyLine, stood_on, two_entry, two_header, two_kind_rank}
use Rattle.change_orders.specs.TwoFiles.{AreTwoWaves, NamesTwo}
use Rattle.change_orders.specs.declared.kind.TwoKind.{TwoKind}
use Rattle.change_orders.specs.declared.kind.TwoKind.TheVariants.{Form, NotInNetwork, Twice, Missing, Early}
use Rattle.change_orders.specs.steps.Found.{LacksSome}
use Rattle.change_orders.specs.steps.Standing.{BeginsTwo, HaveLedTo, IsInOneWave, IsLowestTwoFault, IsReadTo, TwoStanding}
use Rattle.change_orders.proofs.ItemFacts.{NamesItem-below, item_named}
use Rattle.change_orders.proofs.TakenLines.{start_leads}
use Rattle.change_orders.proofs.TakenWaves.{among_all, kind_some}

pub begins : (lines entries : List (List ℕ)) → lines ≡ two_header ∷ entries → BeginsTwo lines
begins lines entries is = subst BeginsTwo (sym is) refl

-- a text without the header is off the form at its first line
pub no_header : (net : Network) (text : List ℕ) → (BeginsTwo (line_texts text) → ⊥) → IsLeastTwoFault net text 1 Form
no_header net text none = record {
  faulty = inl (refl, none);
  least = λ other its f. least other its f;
  lowest = λ its f. kind_some its;
}
  where
    behind : (other : ℕ) (its : TwoKind) → HasTwoFault net text other its → 1 ≤ other
    behind other its f = omega (arith, f.number_is)

    least : (other : ℕ) (its : TwoKind) → IsTwoFaultyLine net text other its → 1 ≤ other
    least other Form f = ⊎_elim (λ first. omega (arith, first.0)) (λ g. behind other Form g) f
    least other NotInNetwork f = behind other NotInNetwork f
    least other Twice f = behind other Twice f
    least other Missing f = omega (arith, f.number_is)
    least other Early f = behind other Early f

module _ (net : Network) (text : List ℕ) (lines : List (List ℕ)) (s : TwoStanding) (led : HaveLedTo net lines s) where
  module _ (rest : List (List ℕ)) (whole : line_texts text ≡ two_header ∷ (lines ++ rest)) where
    -- a fault stands behind the lines that were read
    behind_read : (other : ℕ) (its : TwoKind) → HasTwoFault net text other its → length lines + 2 ≤ other
    behind_read other its f =
        let parts : f.at.before ++ f.at.line ∷ f.after ≡ lines ++ rest = cc (f.lines, whole) in
        elim (split_at f.at.before f.at.line f.after lines rest (sym parts)) [
          | inl among ↦ absurd (led.faultless f.at among.0 its among.1 f.fault)
          | inr behind ↦ omega (arith, f.number_is, ap length behind.1, length-append lines behind.0)
        ]

    least_behind : (other : ℕ) (its : TwoKind) → IsTwoFaultyLine net text other its → length lines + 2 ≤ other
    least_behind other Form f =
        ⊎_elim (λ first. absurd (first.1 (begins (line_texts text) (lines ++ rest) whole))) (λ g. behind_read other Form g) f
    least_behind other NotInNetwork f = behind_read other NotInNetwork f
    least_behind other Twice f = behind_read other Twice f
    least_behind other Missing f =
        let same : f.entries ≡ lines ++ rest = cc (f.lines, whole) in
        omega (arith, f.number_is, ap length same, length-append lines rest)
    least_behind other Early f = behind_read other Early f

  -- the next line is faulty
  module _ (line : List ℕ) (rest : List (List ℕ)) (whole : line_texts text ≡ two_header ∷ (lines ++ line ∷ rest)) where
    faulty_here : (kind : TwoKind) → IsTwoFaultBehind net (two_entry lines line) kind → IsTwoFaultyLine net text (length lines + 2) kind
    faulty_here Form f = inr (record { at = two_entry lines line; after = rest; lines = whole; number_is = refl; fault = f })
    faulty_here NotInNetwork f = record { at = two_entry lines line; after = rest; lines = whole; number_is = refl; fault = f }
    faulty_here Twice f = record { at = two_entry lines line; after = rest; lines = whole; number_is = refl; fault = f }
    faulty_here Missing f = absurd f
    faulty_here Early f = record { at = two_entry lines line; after = rest; lines = whole; number_is = refl; fault = f }

    fault_here : (its : TwoKind) → HasTwoFault net text (length lines + 2) its → IsTwoFaultBehind net (two_entry lines line) its
    fault_here its f =
        let parts : f.at.before ++ f.at.line ∷ f.after ≡ lines ++ line ∷ rest = cc (f.lines, whole) in
        let split = one_split f.at.before f.at.line f.after lines line rest (omega (arith, f.number_is)) parts in
        let same : f.at ≡ two_entry lines line = λ i. two_entry (split.0 i) (split.1 i) in
        subst (λ e. IsTwoFaultBehind net e its) same f.fault

    pub least_here : (kind : TwoKind) → IsLowestTwoFault net (two_entry lines line) kind → IsLeastTwoFault net text (length lines + 2) kind
    least_here kind is = record { faulty = faulty_here kind is.fault; least = least_behind (line ∷ rest) whole; lowest = lowest }
      where
        lowest : (its : TwoKind) → IsTwoFaultyLine net text (length lines + 2) its → two_kind_rank kind ≤ two_kind_rank its
        lowest Form f = ⊎_elim (λ first. absurd (omega (arith, first.0))) (λ g. is.lowest Form (fault_here Form g)) f
        lowest NotInNetwork f = is.lowest NotInNetwork (fault_here NotInNetwork f)
        lowest Twice f = is.lowest Twice (fault_here Twice f)
        lowest Missing f =
            let same : f.entries ≡ lines ++ line ∷ rest = cc (f.lines, whole) in
            absurd (omega (arith, f.number_is, ap length same, length-append lines (line ∷ rest)))
        lowest Early f = is.lowest Early (fault_here Early f)

  -- no line is left
  module _ (whole : line_texts text ≡ two_header ∷ lines) where
    all_read : line_texts text ≡ two_header ∷ (lines ++ [])
    all_read = whole ∙ ap (λ l. two_header ∷ l) (sym (append-nil lines))

    no_entry : (other : ℕ) (its : TwoKind) → HasTwoFault net text other its → ⊥
    no_entry other its f =
        let parts : lines ≡ f.at.before ++ f.at.line ∷ f.after = cc (f.lines, whole) in
        led.faultless f.at f.after its parts f.fault

    pub least_missing : LacksSome s.ranks → IsLeastTwoFault net text (length lines + 2) Missing
    least_missing lacks = record {
      faulty =
          let its = item_named net lacks.place (omega (arith, lacks.within, led.each)) in
          record {
            entries = lines;
            lines = whole;
            number_is = refl;
            item = lacks.place;
            word = its.0;
            names = its.1;
            absent = subst (λ o. MatchOption o (Contains (stood_on lines) its.0 → ⊥) (IsInOneWave (waves_on Two lines) its.0)) lacks.none
                (led.places its.0 lacks.place its.1);
          };
      least = least_behind [] all_read;
      lowest = lowest;
    }
      where
        lowest : (its : TwoKind) → IsTwoFaultyLine net text (length lines + 2) its → 4 ≤ two_kind_rank its
        lowest Form f = ⊎_elim (λ first. absurd (omega (arith, first.0))) (λ g. absurd (no_entry (length lines + 2) Form g)) f
        lowest NotInNetwork f = absurd (no_entry (length lines + 2) NotInNetwork f)
        lowest Twice f = absurd (no_entry (length lines + 2) Twice f)
        lowest Missing f = omega arith
        lowest Early f = omega arith

    module _ (ranks : List ℕ) (all : s.ranks ≡ map (λ (i : ℕ). Some i) ranks) where
      each : length ranks ≡ 2 * length net
      each = sym (length-map ranks (λ (i : ℕ). Some i)) ∙ ap length (sym all) ∙ led.each

      rank_at : (i : ℕ) → i < 2 * length net → get_or s.ranks i None ≡ Some (rank_of ranks i)
      rank_at i l = ap (λ xs. get_or xs i None) all ∙ get_or-map (λ (j : ℕ). Some j) ranks i 0 None (omega (arith, each, l))

      place_of : (word : List ℕ) (i : ℕ) → NamesItem net word i → IsInOneWave (waves_on Two lines) word (rank_of ranks i)
      place_of word i n =
          subst (λ o. MatchOption o (Contains (stood_on lines) word → ⊥) (IsInOneWave (waves_on Two lines) word))
          (rank_at i (NamesItem-below net word i n)) (led.places word i n)

      no_fault : (number : ℕ) (kind : TwoKind) → IsTwoFaultyLine net text number kind → ⊥
      no_fault number Form f = ⊎_elim (λ first. first.1 (begins (line_texts text) lines whole)) (λ g. no_entry number Form g) f
      no_fault number NotInNetwork f = no_entry number NotInNetwork f
      no_fault number Twice f = no_entry number Twice f
      no_fault number Missing f =
          let same : lines ≡ f.entries = cc (f.lines, whole) in
          let at = place_of f.word f.item f.names in
          f.absent (subst (λ l. Contains (stood_on l) f.word) same (among_all (waves_on Two lines) (rank_of ranks f.item) f.word at.among))
      no_fault number Early f = no_entry number Early f

      pub names_two : NamesTwo net text ranks
      names_two = record {
        entries = lines;
        lines = whole;
        faultless = no_fault;
        each = each;
        seats = λ word i w n. (
          λ c. (place_of word i n).only w c,
          λ e. subst (λ v. Contains (wave_at (waves_on Two lines) v) word) (sym e) (place_of word i n).among,
        );
      }

      ranked : (w r : ℕ) → w ≤ r → Contains ranks r → Contains ranks w
      ranked w r le c =
          let its = item_named net c.0 (omega (arith, c.1, each)) in
          let at = place_of its.0 c.0 its.1 in
          let rank : rank_of ranks c.0 ≡ r = get_or_default ranks c.0 0 r c.1 ∙ c.2 in
          let used = led.used w (omega (arith, at.within, led.count, rank, le)) in
          let given = Contains-map (λ (i : ℕ). Some i) ranks (Some w) (subst (λ xs. Contains xs (Some w)) all used) in
          let same : given.item ≡ w = let is = given.gives in cc in
          subst (Contains ranks) same given.among

      pub two_waves : AreTwoWaves (length net) ranks
      two_waves = record {
        ranking = record { each = each; whole = ranked };
        in_turn = λ u l.
            let before = led.in_turn u (rank_of ranks (2 * u + 1)) l (rank_at (2 * u + 1) (omega (arith, l))) in
            let has = rank_at (2 * u) (omega (arith, l)) in
            let at = before.1 in
            let same : before.0 ≡ rank_of ranks (2 * u) = cc in
            omega (arith, before.2, same);
      }

-- a text has no more lines than bytes, and one
pub few_lines : (text : List ℕ) → length (line_texts text) ≤ length text + 1
few_lines text =
    omega (
      arith,
      lines_few text (text_lines text) refl,
      lines_of-length 1 0 (line_pieces text),
      length-map (line_pieces text) strip_carriage_return,
    )

-- the header was read
pub read_start : (net : Network) (text : List ℕ) (left : List (List ℕ)) (n : ℕ) (s : TwoStanding) → line_texts text ≡ two_header ∷ left → n ≡ length net →
    s.ranks ≡ replicate (2 * n) None → s.waves ≡ 0 → s.chained ≡ false → IsReadTo net text left 2 s
read_start net text left n s whole same ranks waves chained = record {
  lines = [];
  whole = whole;
  number_is = refl;
  few = omega (arith, waves);
  led =
      let is : record { ranks = replicate (2 * n) None; waves = 0; chained = false } ≡ s =
      λ i. record { ranks = sym ranks i; waves = sym waves i; chained = sym chained i } in
      subst (HaveLedTo net []) is (start_leads net n same);
}

-- a further line was read
pub read_more : (net : Network) (text line : List ℕ) (rest : List (List ℕ)) (number : ℕ) (s t : TwoStanding)
    (r : IsReadTo net text (line ∷ rest) number s) → HaveLedTo net (r.lines ++ line ∷ []) t → t.waves ≤ s.waves + 1 → IsReadTo net text rest (number + 1) t
read_more net text line rest number s t r led few = record {
  lines = r.lines ++ line ∷ [];
  whole = r.whole ∙ ap (λ l. two_header ∷ l) (sym (append_assoc r.lines (line ∷ []) rest));
  number_is = omega (arith, r.number_is, length-append r.lines (line ∷ []));
  few = omega (arith, r.few, few, length-append r.lines (line ∷ []));
  led = led;
}
