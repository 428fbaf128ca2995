-- Which line of an order file is the least faulty one.
use Rattle.std.proofs.Common.{◌≡◌, ℕ, ◌+◌, ◌<◌, ◌≤◌, Some, None, List, [], ◌∷◌, ◌++◌, length, get_or, take, Contains, refl}
use Rattle.std.proofs.Common.{sym, ap, subst, ◌∙◌, ⊎_elim, inl, inr, arith}
use Rattle.std.specs.List.{slice_get}
use Rattle.std.proofs.lemmas.List.{append-nil, length-append}
use Rattle.std.proofs.lemmas.Slice.Zip.{AllZip-long}
use Rattle.net_addr.specs.Lines.{line_texts}
use Rattle.net_model.specs.Lookups.{IsNamed}
use Rattle.net_model.specs.Network.{Network}
use Rattle.net_model.specs.Refusals.{NamesAscend}
use Rattle.net_model.proofs.NetworkFacts.{IsNamed-unique}
use Rattle.step_scripts.specs.WaveLines.{header_of, wave_on, chain_on, waves_on, chains_on}
use Rattle.step_scripts.specs.WaveFiles.{all_in, AreOfEach}
use Rattle.step_scripts.specs.FaultyLines.{FileEntry, HasHeader, IsFaultBehind, IsFaultyLine, IsLeastFaultyLine, IsWaveBehind, HasFaultyEntry}
use Rattle.step_scripts.specs.FaultyLines.{order_kind_rank}
use Rattle.step_scripts.specs.steps.ReadWaves.{AreWavesRead, AreEntriesRead, IsUnfit, HasUnseated, HasUnknown, NamesRepeat, file_entry}
use Rattle.step_scripts.specs.declared.version.Version.{Version}
use Rattle.step_scripts.specs.declared.kind.OrderKind.{OrderKind}
use Rattle.step_scripts.specs.declared.kind.OrderKind.TheVariants.{Header, NotInNetwork, Twice, Missing, Wave, Chain}
use Rattle.step_scripts.proofs.Routers.{same_name, has_name}
use Rattle.step_scripts.proofs.Zips.{zip_at, zip_append, zip_flat, zip_take, zip_partner, zip_item}
use Rattle.step_scripts.proofs.Splits.{split_at, one_split}
use Rattle.step_scripts.proofs.WaveLineFacts.{Says, one_header, chain_no_wave, waves_of, no_chains}
use Rattle.step_scripts.proofs.ReadFacts.{no_fault_in, waves_read}

-- a line that is faulty with this kind by what stands before it, and with no lower one
pub record IsLowestBehind (net : Network) (e : FileEntry) (kind : OrderKind) : Type 0 where
  pub fault : IsFaultBehind net e kind
  pub lowest : (its : OrderKind) → IsFaultBehind net e its → order_kind_rank kind ≤ order_kind_rank its

pub first_header : (text : List ℕ) (version : Version) (entries : List (List ℕ)) → line_texts text ≡ header_of version ∷ entries →
    HasHeader version text
first_header text version entries lines = subst (λ l. slice_get l 0 ≡ Some (header_of version)) (sym lines) refl

module _ (net : Network) (network : NamesAscend net) (text : List ℕ) (version : Version) where
  -- the entries of a text, in whichever version they are told
  module _ (entries : List (List ℕ)) (lines : line_texts text ≡ header_of version ∷ entries) where
    same_text : (its : Version) (others : List (List ℕ)) → line_texts text ≡ header_of its ∷ others → (its ≡ version) × (others ≡ entries)
    same_text its others is = (let both : header_of its ≡ header_of version = cc (is, lines) in one_header its version both, cc (is, lines))

    -- and those around a faulty line
    same_around : (number : ℕ) (kind : OrderKind) (f : HasFaultyEntry net text number kind) →
        (f.at.version ≡ version) × (f.at.before ++ f.at.line ∷ f.after ≡ entries)
    same_around number kind f = same_text f.at.version (f.at.before ++ f.at.line ∷ f.after) f.lines

  -- a faulty line stands behind what was read
  behind_entry : (entries rest seats : List (List ℕ)) → line_texts text ≡ header_of version ∷ (entries ++ rest) →
      AreEntriesRead net version entries seats →
      (number : ℕ) (kind : OrderKind) → HasFaultyEntry net text number kind → length entries + 2 ≤ number
  behind_entry entries rest seats lines read number kind f =
      let same = same_around (entries ++ rest) lines number kind f in
      elim (split_at f.at.before f.at.line f.after entries rest (sym same.1)) [
        | inl here ↦
            absurd (no_fault_in net network version entries seats read f.at.before f.at.line here.0 here.1 kind
            (subst (λ v. IsFaultBehind net (file_entry v f.at.before f.at.line) kind) same.0 f.fault))
        | inr behind ↦ omega (arith, f.number_is, ap length behind.1, length-append entries behind.0)
      ]

  pub behind_read : (entries rest seats : List (List ℕ)) → line_texts text ≡ header_of version ∷ (entries ++ rest) →
      AreEntriesRead net version entries seats →
      (number : ℕ) (kind : OrderKind) → IsFaultyLine net text number kind → length entries + 2 ≤ number
  behind_read entries rest seats lines read number Header f = absurd (f.1 version (first_header text version (entries ++ rest) lines))
  behind_read entries rest seats lines read number Missing f =
      let same = same_text (entries ++ rest) lines f.version f.entries f.lines in
      omega (arith, f.number_is, ap length same.1, length-append entries rest)
  behind_read entries rest seats lines read number kind f = behind_entry entries rest seats lines read number kind f

  -- the line behind what was read
  module _ (entries : List (List ℕ)) (line : List ℕ) (more seats : List (List ℕ)) (lines : line_texts text ≡ header_of version
      ∷ (entries ++ line ∷ more)) where
    faulty_here : (kind : OrderKind) → IsFaultBehind net (file_entry version entries line) kind → IsFaultyLine net text (length entries + 2) kind
    faulty_here Header fault = absurd fault
    faulty_here Missing fault = absurd fault
    faulty_here kind fault = record { at = file_entry version entries line; after = more; lines = lines; number_is = refl; fault = fault }

    entry_here : (kind : OrderKind) → HasFaultyEntry net text (length entries + 2) kind → IsFaultBehind net (file_entry version entries line) kind
    entry_here kind f =
        let same = same_around (entries ++ line ∷ more) lines (length entries + 2) kind f in
        let split = one_split f.at.before f.at.line f.after entries line more (omega (arith, f.number_is)) same.1 in
        let one : f.at ≡ file_entry version entries line = λ i. file_entry (same.0 i) (split.0 i) (split.1 i) in
        subst (λ e. IsFaultBehind net e kind) one f.fault

    lowest_here : (kind : OrderKind) → IsLowestBehind net (file_entry version entries line) kind → (its : OrderKind) →
        IsFaultyLine net text (length entries + 2) its → order_kind_rank kind ≤ order_kind_rank its
    lowest_here kind is Header f = absurd (omega (arith, f.0))
    lowest_here kind is Missing f =
        let same = same_text (entries ++ line ∷ more) lines f.version f.entries f.lines in
        absurd (omega (arith, f.number_is, ap length same.1, length-append entries (line ∷ more)))
    lowest_here kind is its f = is.lowest its (entry_here its f)

    pub least_here : AreEntriesRead net version entries seats → (kind : OrderKind) → IsLowestBehind net (file_entry version entries line) kind →
        IsLeastFaultyLine net text (length entries + 2) kind
    least_here read kind is = record {
      faulty = faulty_here kind is.fault;
      least = behind_read entries (line ∷ more) seats lines read;
      lowest = lowest_here kind is;
    }

  -- where all entries were read and some router has no seat
  module _ (entries seats : List (List ℕ)) (lines : line_texts text ≡ header_of version ∷ entries) (read : AreEntriesRead net version entries seats)
    where
      not_behind : (kind : OrderKind) → HasFaultyEntry net text (length entries + 2) kind → ⊥
      not_behind kind f =
          let same = same_around entries lines (length entries + 2) kind f in
          omega (arith, f.number_is, ap length same.1, length-append f.at.before (f.at.line ∷ f.after))

      lowest_behind : (its : OrderKind) → IsFaultyLine net text (length entries + 2) its → 4 ≤ order_kind_rank its
      lowest_behind Header f = absurd (omega (arith, f.0))
      lowest_behind NotInNetwork f = absurd (not_behind NotInNetwork f)
      lowest_behind Twice f = absurd (not_behind Twice f)
      lowest_behind its f = omega arith

      absent : (u : ℕ) (name : List ℕ) → IsNamed net name u → Contains (all_in (waves_on version entries)) name → Contains (all_in seats) u
      absent u name named c =
          let waves = waves_read net network version entries seats read in
          let among = subst (λ l. Contains (all_in l) name) waves c in
          let its =
          zip_partner (IsNamed net) (all_in read.read.waves) (all_in seats) name 0 (zip_flat (IsNamed net) read.read.waves seats read.read.named) among in
          subst (Contains (all_in seats)) (IsNamed-unique net name its.1 u network its.4 named) (its.0, its.2, its.3)

      pub least_behind : HasUnseated (length net) seats → IsLeastFaultyLine net text (length entries + 2) Missing
      least_behind missing =
          let its = has_name net missing.router missing.below in
          record {
            faulty = record {
              version = version;
              entries = entries;
              lines = lines;
              number_is = refl;
              router = missing.router;
              name = its.0;
              named = its.1;
              absent = λ c. missing.absent (absent missing.router its.0 its.1 c);
            };
            least = behind_read entries [] seats (lines ∙ ap (λ l. header_of version ∷ l) (sym (append-nil entries))) read;
            lowest = lowest_behind;
          }

-- why the line behind what was read has no lower kind

module _ (net : Network) (network : NamesAscend net) (version : Version) where
  -- a line that is no wave has no lower kind
  not_lower : (e : FileEntry) → ((names : List (List ℕ)) → IsWaveBehind e names → ⊥) → (its : OrderKind) → IsFaultBehind net e its →
      5 ≤ order_kind_rank its
  not_lower e bare its f = grind arith

  -- neither a wave nor a chain
  pub lowest_no_wave : (before : List (List ℕ)) (line : List ℕ) → wave_on version line ≡ None → chain_on version line ≡ None →
      IsLowestBehind net (file_entry version before line) Wave
  lowest_no_wave before line no_wave no_chain =
      record { fault = inl (no_wave, no_chain); lowest = not_lower (file_entry version before line) (λ names is. let wave = is.wave in cc) }

  -- any line behind a chain
  pub lowest_behind_chain : (before : List (List ℕ)) (line : List ℕ) → (chains_on version before ≡ [] → ⊥) →
      IsLowestBehind net (file_entry version before line) Wave
  lowest_behind_chain before line some =
      record { fault = inr some; lowest = not_lower (file_entry version before line) (λ names is. some is.no_chain) }

  module _ (lines : List (List ℕ)) (seats : List (List ℕ)) (read : AreWavesRead net version lines seats) (line : List ℕ) (names : List (List ℕ)) where
    none : chains_on version lines ≡ []
    none = no_chains version lines read.waves read.each

    -- a chain of other names
    pub lowest_chain : chain_on version line ≡ Some names → (AreOfEach read.waves names → ⊥) → IsLowestBehind net (file_entry version lines line) Chain
    lowest_chain chain wrong = record {
      fault = record {
        names = names;
        chain = chain;
        no_chain = none;
        wrong =
            λ each. wrong (subst (λ l. AreOfEach l names) (waves_of version lines read.waves read.each) each);
      };
      lowest = lowest;
    }
      where
        bare : (others : List (List ℕ)) → IsWaveBehind (file_entry version lines line) others → ⊥
        bare others is = let wave = is.wave in let nothing = chain_no_wave version line names chain in cc

        lowest : (its : OrderKind) → IsFaultBehind net (file_entry version lines line) its → 6 ≤ order_kind_rank its
        lowest Wave f = ⊎_elim (λ neither. absurd (let nothing = neither.1 in cc)) (λ some. absurd (some none)) f
        lowest Chain f = omega arith
        lowest its f = absurd (let low = not_lower (file_entry version lines line) bare its f in omega (arith, low))

    -- a name of no router
    lowest_unknown : Says version line names → HasUnknown net names → IsLowestBehind net (file_entry version lines line) NotInNetwork
    lowest_unknown says has = record {
      fault = record { names = names; wave = record { wave = says; no_chain = none }; name = has.name; among = has.among; unknown = has.unknown };
      lowest = lowest;
    }
      where
        lowest : (its : OrderKind) → IsFaultBehind net (file_entry version lines line) its → 2 ≤ order_kind_rank its
        lowest Header f = absurd f
        lowest its f = omega arith

    inside : (is : NamesRepeat net names seats) → is.repeat.place < length names
    inside is = let long = AllZip-long (IsNamed net) names is.routers is.named in omega (arith, long, is.repeat.within)

    -- a name that stood before
    stood_before : (is : NamesRepeat net names seats) → Contains (all_in (waves_on version lines) ++ take is.repeat.place names)
        (get_or names is.repeat.place [])
    stood_before is =
        let place = is.repeat.place in
        let waves = read.waves in
        let zipped = zip_append (IsNamed net) (all_in waves) (all_in seats) (take place names) (take place is.routers)
        (zip_flat (IsNamed net) waves seats read.named) (zip_take (IsNamed net) place names is.routers is.named) in
        let its = zip_item (IsNamed net) (all_in waves ++ take place names) (all_in seats ++ take place is.routers) (get_or is.routers place 0) []
        zipped is.repeat.stood in
        let here = zip_at (IsNamed net) names is.routers place [] 0 is.named (inside is) in
        let same = same_name net its.1 (get_or names place []) (get_or is.routers place 0) its.4 here in
        subst (λ l. Contains (all_in l ++ take place names) (get_or names place [])) (sym (waves_of version lines waves read.each))
        (subst (Contains (all_in waves ++ take place names)) same (its.0, its.2, its.3))

    lowest_repeat : Says version line names → NamesRepeat net names seats → IsLowestBehind net (file_entry version lines line) Twice
    lowest_repeat says is = record {
      fault = record { names = names; wave = record { wave = says; no_chain = none }; place = is.repeat.place; within = inside is; stood = stood_before is };
      lowest = lowest;
    }
      where
        lowest : (its : OrderKind) → IsFaultBehind net (file_entry version lines line) its → 3 ≤ order_kind_rank its
        lowest Header f = absurd f
        lowest NotInNetwork f =
            let same : f.names ≡ names = cc (f.wave.wave, says) in
            let its = zip_partner (IsNamed net) names is.routers f.name 0 is.named (subst (λ l. Contains l f.name) same f.among) in
            absurd (f.unknown its.1 its.4)
        lowest its f = omega arith

    -- names that are no further wave
    pub lowest_unfit : Says version line names → (kind : OrderKind) → IsUnfit net names seats kind → IsLowestBehind net (file_entry version lines line) kind
    lowest_unfit says NotInNetwork f = lowest_unknown says f
    lowest_unfit says Twice f = lowest_repeat says f
    lowest_unfit says kind f = absurd f
