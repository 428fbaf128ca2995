-- The lines that set a distance, as a text: how they read.
use Rattle.std.proofs.lemmas.Grind.{common_steps}
use Rattle.std.proofs.Common.{◌≡◌, ℕ, ◌+◌, ◌<◌, ◌≤◌, ◌^◌, Bool, true, false, List, [], ◌∷◌, Some, Ok}
use Rattle.std.proofs.Common.{◌≢◌, ◌⊎◌, nat_eq, Err, cond, ◌||◌, ◌&&◌, refl, sym, ap, subst, ◌∙◌, arith, codes, decimal}
use Rattle.std.specs.Prelude.{All, bytes_eq}
use Rattle.std.specs.Char.{IsAsciiDigit}
use Rattle.std.proofs.lemmas.Slice.Eq.{bytes_eq-Decides}
use Rattle.std.specs.List.{list_all}
use Rattle.std.proofs.lemmas.Bool.{eqb-true, le-leb}
use Rattle.printed_lines.specs.Words.{joined, spaced}
use Rattle.printed_lines.specs.Texts.{text_of}
use Rattle.printed_lines.proofs.NumberFacts.{decimal-IsNumeral, numbers_read_back}
use Rattle.net_model.specs.declared.bounds.TheConstants.{ISIS_DISTANCE, MOST_DISTANCE, MOST_PROCESS}
use Rattle.ios_lines.specs.Words.{Word, is_printable, number_of, at_least}
use Rattle.ios_lines.specs.IsisLines.{isis_line}
use Rattle.ios_lines.specs.OspfLines.{ospf_line, apart_distance}
use Rattle.ios_lines.specs.declared.isis_line.IsisLine.TheVariants.{Distance as IsisDistance}
use Rattle.ios_lines.specs.declared.ospf_line.OspfLine.TheVariants.{Distance as OspfDistance}
use Rattle.ios_lines.specs.Heads.{head_of}
use Rattle.ios_lines.specs.declared.kind.ReadKind.TheVariants.{BadDistance, DistanceClash, Unsupported}
use Rattle.ios_lines.specs.declared.head.Head.TheVariants.{Ospf as OspfHead, Isis as IsisHead}
use Rattle.ios_lines.proofs.NumberFacts.{number-some}
use Rattle.ios_sections.specs.Sections.{section_with}
use Rattle.ios_sections.specs.JoinedLines.{sections_further_on}
use Rattle.ios_sections.specs.declared.section.Section.TheVariants.{Isis, Ospf}
use Rattle.ios_reader.specs.InsertedLines.{IsLineBlock}
use Rattle.printed_sections.specs.PrintedSections.{is_fine_line, line_with, section_lines_from}
use Rattle.printed_sections.proofs.SectionFacts.{number_fine, section_fits, section_says}
use Rattle.step_scripts.specs.Scripts.{isis_head, ospf_head, distance_line}
use Rattle.applied_changes.proofs.FurtherSections.{isis_setting, isis_setting_section, ospf_setting, ospf_setting_section}

-- ---- a block of two lines, of which the first opens the section of a process ----

abbrev router_word : Word
router_word = codes "router"

abbrev distance_words : ℕ → List Word
distance_words distance = codes "distance" ∷ decimal distance ∷ []

-- what a block of this line and of one that sets this distance reads as
record ReadsAsBlock (head : List ℕ) (rest : List Word) (distance : ℕ) : Type 0 where
  fits : IsLineBlock (text_of (head ∷ distance_line distance ∷ []))
  sections : (count : ℕ) →
      sections_further_on count (text_of (head ∷ distance_line distance ∷ []))
      ≡ section_with (head_of (router_word ∷ rest)) (count + 1) (section_lines_from (count + 2) (distance_words distance ∷ [])) ∷ []

reads_as_block : (head : List ℕ) (rest : List Word) (distance : ℕ) → head ≡ joined (router_word ∷ rest) →
    is_fine_line (router_word ∷ rest) ≡ true → distance < 2 ^ 64 → ReadsAsBlock head rest distance
reads_as_block head rest distance is fine small =
    let body : list_all is_fine_line (distance_words distance ∷ []) ≡ true =
    ap (λ (b : Bool). ((b && true) && true && true && true) && true) (number_fine distance small) in
    subst (λ h. ReadsAsBlock h rest distance) (sym is) (record {
      fits = section_fits (router_word ∷ rest) (distance_words distance ∷ []) fine refl body;
      sections = section_says (router_word ∷ rest) (distance_words distance ∷ []) fine refl body;
    })

-- ---- the lines of distances ----

distance_read : (distance : ℕ) → distance < 2 ^ 64 → distance ≤ MOST_DISTANCE → number_of MOST_DISTANCE (decimal distance) ≡ Some distance
distance_read distance small high = grind (arith, common_steps, number-some, numbers_read_back)

-- a distance of IS-IS is its own or the greatest
isis_distance_read : (distance : ℕ) → (distance ≡ ISIS_DISTANCE) ⊎ (distance ≡ MOST_DISTANCE) →
    isis_line (distance_words distance) ≡ IsisDistance (Ok distance)
isis_distance_read distance it_1 = grind (arith, common_steps, distance_read)

-- a number isn't the word `ospf`
no_number : (distance : ℕ) → distance < 2 ^ 64 → bytes_eq (decimal distance) (codes "ospf") ≡ false
no_number distance small = by_test (bytes_eq (decimal distance) (codes "ospf")) refl
  where
    by_test : (b : Bool) → bytes_eq (decimal distance) (codes "ospf") ≡ b → b ≡ false
    by_test false e = refl
    by_test true e =
        let same : decimal distance ≡ codes "ospf" = (bytes_eq-Decides (decimal distance) (codes "ospf")).0 e in
        let digits : All IsAsciiDigit (decimal distance) = (decimal-IsNumeral distance small).digits in
        let first : IsAsciiDigit 111 = subst (λ l. All IsAsciiDigit l) same digits 0 0 (omega arith) in
        absurd (let high = first.1 in omega (arith, high))

-- one of OSPF is from 1 to the greatest and not that of IS-IS
ospf_distance_read : (distance : ℕ) → 1 ≤ distance → distance ≤ MOST_DISTANCE → distance ≢ ISIS_DISTANCE →
    ospf_line (distance_words distance) ≡ OspfDistance (Ok distance)
ospf_distance_read distance low high apart =
    ap (λ (b : Bool). OspfDistance (cond (b || false) (Err Unsupported)
    (apart_distance (at_least 1 BadDistance (number_of MOST_DISTANCE (decimal distance)))))) (no_number distance (omega (arith, high)))
    ∙ ap (λ o. OspfDistance (apart_distance (at_least 1 BadDistance o))) (distance_read distance (omega (arith, high)) high)
    ∙ ap (λ (b : Bool). OspfDistance (apart_distance (cond b (Ok distance) (Err BadDistance)))) (le-leb 1 distance low)
    ∙ ap (λ (b : Bool). OspfDistance (cond b (Err DistanceClash) (Ok distance))) (by_test (nat_eq distance ISIS_DISTANCE) refl)
  where
    by_test : (b : Bool) → nat_eq distance ISIS_DISTANCE ≡ b → b ≡ false
    by_test false e = refl
    by_test true e = absurd (apart (eqb-true distance ISIS_DISTANCE e))

-- ---- the block of IS-IS ----

abbrev isis_rest : Word → List Word
isis_rest [] = codes "isis" ∷ []
isis_rest (b ∷ tag) = codes "isis" ∷ (b ∷ tag) ∷ []

isis_head_words : (tag : Word) → isis_head tag ≡ joined (router_word ∷ isis_rest tag)
isis_head_words tag = grind (arith, common_steps)

isis_rest_fine : (tag : Word) → list_all is_printable tag ≡ true → is_fine_line (router_word ∷ isis_rest tag) ≡ true
isis_rest_fine tag fine = grind arith

isis_head_is : (tag : Word) → head_of (router_word ∷ isis_rest tag) ≡ IsisHead tag
isis_head_is tag = grind (arith, common_steps)

-- the lines that set the distance, as a text
abbrev pub isis_block : ℕ → Word → List ℕ
isis_block distance tag = text_of (isis_head tag ∷ distance_line distance ∷ [])

module _ (distance : ℕ) (tag : Word) (is : (distance ≡ ISIS_DISTANCE) ⊎ (distance ≡ MOST_DISTANCE)) (fine : list_all is_printable tag ≡ true) where
  isis_small : (distance ≡ ISIS_DISTANCE) ⊎ (distance ≡ MOST_DISTANCE) → distance < 2 ^ 64
  isis_small it_0 = grind (arith, common_steps)

  isis_block_reads : ReadsAsBlock (isis_head tag) (isis_rest tag) distance
  isis_block_reads = reads_as_block (isis_head tag) (isis_rest tag) distance (isis_head_words tag) (isis_rest_fine tag fine) (isis_small is)

  pub isis_block_fits : IsLineBlock (isis_block distance tag)
  isis_block_fits = isis_block_reads.fits

  pub isis_block_sections : (count : ℕ) →
      sections_further_on count (isis_block distance tag) ≡ Isis (isis_setting_section distance (count + 1) tag) ∷ []
  isis_block_sections count =
      isis_block_reads.sections count
      ∙ ap (λ h. section_with h (count + 1) (line_with (count + 2) 1 (spaced (distance_words distance)) (distance_words distance) ∷ []) ∷ [])
      (isis_head_is tag)
      ∙ ap (λ says. Isis (record { line = count + 1; tag = tag; lines = record { line = count + 2; says = says } ∷ [] }) ∷ [])
      (isis_distance_read distance is)
      ∙ ap (λ n. Isis (record { line = count + 1; tag = tag; lines = isis_setting distance n ∷ [] }) ∷ [])
      (let e : count + 2 ≡ count + 1 + 1 = omega arith in e)

-- ---- the block of OSPF ----

abbrev ospf_rest : ℕ → List Word
ospf_rest process = codes "ospf" ∷ decimal process ∷ []

ospf_head_is : (process : ℕ) → 1 ≤ process → process ≤ MOST_PROCESS → head_of (router_word ∷ ospf_rest process) ≡ OspfHead (Ok process)
ospf_head_is process low high = grind (arith, common_steps, le-leb, number-some, numbers_read_back)

abbrev pub ospf_block : ℕ → ℕ → List ℕ
ospf_block distance process = text_of (ospf_head process ∷ distance_line distance ∷ [])

module _ (distance process : ℕ) (some : 1 ≤ distance) (most : distance ≤ MOST_DISTANCE) (apart : distance ≢ ISIS_DISTANCE)
    (low : 1 ≤ process) (high : process ≤ MOST_PROCESS) where
  ospf_block_reads : ReadsAsBlock (ospf_head process) (ospf_rest process) distance
  ospf_block_reads =
      reads_as_block (ospf_head process) (ospf_rest process) distance refl
      (ap (λ (t : Bool). (t && true) && true && true && true) (number_fine process (omega (arith, high)))) (omega (arith, most))

  pub ospf_block_fits : IsLineBlock (ospf_block distance process)
  ospf_block_fits = ospf_block_reads.fits

  pub ospf_block_sections : (count : ℕ) →
      sections_further_on count (ospf_block distance process) ≡ Ospf (ospf_setting_section distance (count + 1) process) ∷ []
  ospf_block_sections count =
      ospf_block_reads.sections count
      ∙ ap (λ h. section_with h (count + 1) (line_with (count + 2) 1 (spaced (distance_words distance)) (distance_words distance) ∷ []) ∷ [])
      (ospf_head_is process low high)
      ∙ ap (λ says. Ospf (record { line = count + 1; process = process; lines = record { line = count + 2; says = says } ∷ [] }) ∷ [])
      (ospf_distance_read distance some most apart)
      ∙ ap (λ n. Ospf (record { line = count + 1; process = process; lines = ospf_setting distance n ∷ [] }) ∷ [])
      (let e : count + 2 ≡ count + 1 + 1 = omega arith in e)
