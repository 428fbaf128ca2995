-- Lines that set distances one after the other, put behind the sections of a configuration: it has the distances that were set, the
-- last of each process, and nothing else differs.
use Rattle.std.proofs.lemmas.Grind.{common_steps}
use Rattle.std.proofs.Common.{◌≡◌, ◌⊎◌, ℕ, ◌+◌, Bool, true, false, cond, List, [], ◌∷◌, ◌++◌, Option, Some, None, refl, sym, ap, subst}
use Rattle.std.proofs.Common.{◌∙◌, arith, inl}
use Rattle.std.specs.Prelude.{filter_map, is_some, unwrap_or, IfSome}
use Rattle.std.specs.List.{All, flat_map, list_all}
use Rattle.std.proofs.lemmas.List.Elements.{All-cons, All-head, All-nil, All-tail, filter_map-append}
use Rattle.net_model.specs.Configuration.{Configuration}
use Rattle.net_model.specs.declared.bounds.TheConstants.{ISIS_DISTANCE, MOST_DISTANCE}
use Rattle.ios_lines.specs.Words.{Word, is_printable}
use Rattle.ios_lines.specs.Lookups.{last_of}
use Rattle.ios_lines.proofs.GoodLines.{IsFrom}
use Rattle.ios_sections.specs.JoinedLines.{sections_further_on}
use Rattle.ios_sections.specs.Processes.{as_hostname, as_interface, as_ospf, as_isis, as_fault, merged_interfaces, interfaces_in, process_of, first_tag}
use Rattle.ios_sections.specs.declared.section.Section.{Section}
use Rattle.ios_sections.specs.declared.section.Section.TheVariants.{Isis, Ospf}
use Rattle.ios_sections.specs.declared.section.IsisSection.{IsisSection}
use Rattle.ios_reader.specs.Faults.{section_faults}
use Rattle.ios_reader.specs.Configurations.{configuration_of}
use Rattle.igp_theory.specs.declared.phase.Phase.{Phase}
use Rattle.igp_theory.specs.declared.phase.Phase.TheVariants.{Old, Middle, New}
use Rattle.ios_reader.proofs.LookedUp.{HasNoFault, no_fault_from, no_fault_by, made_by}
use Rattle.ios_reader.proofs.GrownSections.{Grows, nothing_grows, both_grow}
use Rattle.printed_lines.specs.Texts.{text_of}
use Rattle.printed_lines.proofs.TextSteps.{text_of-append}
use Rattle.step_scripts.specs.Scripts.{distance_line, isis_head, ospf_distance_lines}
use Rattle.applied_changes.specs.AppliedTexts.{in_phase, lines_to, with_distances}
use Rattle.applied_changes.specs.Settings.{IsAllowed, Setting, with_setting, with_settings, setting_lines}
use Rattle.applied_changes.specs.Settings.Setting.{isis_at, ospf_at}
use Rattle.applied_changes.proofs.BlockLines.{isis_block, isis_block_fits, isis_block_sections, ospf_block, ospf_block_fits, ospf_block_sections}
use Rattle.applied_changes.proofs.FurtherSections.{isis_made, isis_no_fault, isis_setting_section, ospf_made, ospf_no_fault, ospf_setting_section}
use Rattle.applied_changes.proofs.FurtherSections.{last_stays, left_out, same_flat, tag_printable, with_isis_at, with_ospf_at}

-- a section more: no fault comes with it, and this is the configuration
record Extends (ss : List Section) (s : Section) (ends : ℕ) (grown : Configuration) : Type 0 where
  faultless : section_faults (ss ++ s ∷ []) ends ≡ []
  made : grown ≡ configuration_of (ss ++ s ∷ [])

module _ (distance : ℕ) (ss : List Section) (ends line : ℕ) (fine : section_faults ss ends ≡ []) where
  abbrev its_name : Option Word
  its_name = last_of as_hostname ss

  -- the tag of the process, and that its bytes are printable
  isis_printable : (f : IsisSection) (more : List IsisSection) → filter_map as_isis ss ≡ f ∷ more → list_all is_printable f.tag ≡ true
  isis_printable f more has = grind (arith, common_steps, no_fault_from, tag_printable)

  isis_extends : (f : IsisSection) (more : List IsisSection) → filter_map as_isis ss ≡ f ∷ more →
      Extends ss (Isis (isis_setting_section distance line f.tag)) ends (with_isis_at distance (configuration_of ss))
  isis_extends f more has =
      let s : Section = Isis (isis_setting_section distance line f.tag) in
      let names = last_stays as_hostname ss s refl in
      let interfaces : interfaces_in (ss ++ s ∷ []) ≡ interfaces_in ss = ap merged_interfaces (left_out as_interface ss s refl) in
      let ospf = left_out as_ospf ss s refl in
      let isis : filter_map as_isis (ss ++ s ∷ []) ≡ f ∷ (more ++ isis_setting_section distance line f.tag ∷ []) =
      filter_map-append as_isis ss (s ∷ []) ∙ ap (λ l. l ++ isis_setting_section distance line f.tag ∷ []) has in
      let heads = left_out as_fault ss s refl in
      record {
        faultless =
            no_fault_by (ss ++ s ∷ []) ends its_name (interfaces_in ss) (filter_map as_ospf ss)
            (f ∷ (more ++ isis_setting_section distance line f.tag ∷ [])) (filter_map as_fault ss)
            names interfaces ospf isis heads
            (isis_no_fault distance its_name (interfaces_in ss) (filter_map as_ospf ss) f more (filter_map as_fault ss) ends line
            (subst (λ l. HasNoFault its_name (interfaces_in ss) (filter_map as_ospf ss) l (filter_map as_fault ss) ends) has (no_fault_from ss ends fine)));
        made =
            ap (with_isis_at distance) (made_by ss its_name (interfaces_in ss) (filter_map as_ospf ss) (f ∷ more) refl refl refl has)
            ∙ sym (isis_made distance its_name (interfaces_in ss) (filter_map as_ospf ss) f more (filter_map as_fault ss) ends line
            (isis_printable f more has))
            ∙ sym (made_by (ss ++ s ∷ []) its_name (interfaces_in ss) (filter_map as_ospf ss)
            (f ∷ (more ++ isis_setting_section distance line f.tag ∷ [])) names interfaces ospf isis);
      }

  ospf_extends : (p : ℕ) → process_of ss ≡ Some p →
      Extends ss (Ospf (ospf_setting_section distance line p)) ends (with_ospf_at distance (configuration_of ss))
  ospf_extends p running =
      let s : Section = Ospf (ospf_setting_section distance line p) in
      let names = last_stays as_hostname ss s refl in
      let interfaces : interfaces_in (ss ++ s ∷ []) ≡ interfaces_in ss = ap merged_interfaces (left_out as_interface ss s refl) in
      let ospf = filter_map-append as_ospf ss (s ∷ []) in
      let isis = left_out as_isis ss s refl in
      let heads = left_out as_fault ss s refl in
      record {
        faultless =
            no_fault_by (ss ++ s ∷ []) ends its_name (interfaces_in ss) (filter_map as_ospf ss ++ ospf_setting_section distance line p ∷ [])
            (filter_map as_isis ss) (filter_map as_fault ss)
            names interfaces ospf isis heads
            (ospf_no_fault distance its_name (interfaces_in ss) (filter_map as_ospf ss) (filter_map as_isis ss) (filter_map as_fault ss) ends line p running
            (no_fault_from ss ends fine));
        made =
            sym (ospf_made distance its_name (interfaces_in ss) (filter_map as_ospf ss) (filter_map as_isis ss) (filter_map as_fault ss) ends line p running
            (no_fault_from ss ends fine))
            ∙ sym (made_by (ss ++ s ∷ []) its_name (interfaces_in ss) (filter_map as_ospf ss ++ ospf_setting_section distance line p ∷ [])
            (filter_map as_isis ss) names interfaces ospf isis);
      }

-- ---- one setting ----

isis_grows : (distance : ℕ) (ss : List Section) (ends : ℕ) (f : IsisSection) (more : List IsisSection) →
    (distance ≡ ISIS_DISTANCE) ⊎ (distance ≡ MOST_DISTANCE) → section_faults ss ends ≡ [] → filter_map as_isis ss ≡ f ∷ more →
    Grows ss ends (isis_block distance f.tag) (with_isis_at distance (configuration_of ss))
isis_grows distance ss ends f more allowed fine has =
    let printable : list_all is_printable f.tag ≡ true = isis_printable distance ss ends 0 fine f more has in
    record {
      fits = isis_block_fits distance f.tag allowed printable;
      faultless = λ count. ap (λ l. section_faults (ss ++ l) ends) (isis_block_sections distance f.tag allowed printable count)
          ∙ (isis_extends distance ss ends (count + 1) fine f more has).faultless;
      made = λ count. (isis_extends distance ss ends (count + 1) fine f more has).made
          ∙ ap (λ l. configuration_of (ss ++ l)) (sym (isis_block_sections distance f.tag allowed printable count));
    }

isis_sets : (distance : ℕ) (ss : List Section) (ends : ℕ) → (distance ≡ ISIS_DISTANCE) ⊎ (distance ≡ MOST_DISTANCE) → section_faults ss ends ≡ [] →
    Grows ss ends (text_of (setting_lines (configuration_of ss) (isis_at distance))) (with_setting (isis_at distance) (configuration_of ss))
isis_sets distance ss ends allowed fine = by_sections (filter_map as_isis ss) refl
  where
    by_sections : (l : List IsisSection) → filter_map as_isis ss ≡ l →
        Grows ss ends (text_of (setting_lines (configuration_of ss) (isis_at distance))) (with_setting (isis_at distance) (configuration_of ss))
    by_sections [] has =
        let without : (configuration_of ss).isis ≡ false = ap (λ l. is_some (first_tag l)) has in
        subst (λ t. Grows ss ends t (with_setting (isis_at distance) (configuration_of ss)))
        (sym (ap (λ (b : Bool). text_of (cond b (isis_head (configuration_of ss).tag ∷ distance_line distance ∷ []) [])) without))
        (subst (λ g. Grows ss ends [] g)
        (sym (ap (λ (b : Bool). cond b (with_isis_at distance (configuration_of ss)) (configuration_of ss)) without))
        (nothing_grows ss ends fine))
    by_sections (f ∷ more) has =
        let runs : (configuration_of ss).isis ≡ true = ap (λ l. is_some (first_tag l)) has in
        let tag : (configuration_of ss).tag ≡ f.tag = ap (λ l. unwrap_or (first_tag l) []) has in
        subst (λ t. Grows ss ends t (with_setting (isis_at distance) (configuration_of ss)))
        (sym (ap (λ (b : Bool). text_of (cond b (isis_head (configuration_of ss).tag ∷ distance_line distance ∷ []) [])) runs
        ∙ ap (isis_block distance) tag))
        (subst (λ g. Grows ss ends (isis_block distance f.tag) g)
        (sym (ap (λ (b : Bool). cond b (with_isis_at distance (configuration_of ss)) (configuration_of ss)) runs))
        (isis_grows distance ss ends f more allowed fine has))

-- the number of a process
abbrev pub IsProcess : Option ℕ → Type 0
IsProcess o = IfSome o (λ (p : ℕ). IsFrom 1 65535 p)

ospf_grows : (distance : ℕ) (ss : List Section) (ends p : ℕ) → IsAllowed (ospf_at distance) → section_faults ss ends ≡ [] → IsFrom 1 65535 p →
    process_of ss ≡ Some p → Grows ss ends (ospf_block distance p) (with_ospf_at distance (configuration_of ss))
ospf_grows distance ss ends p allowed fine range running = record {
  fits = ospf_block_fits distance p allowed.some allowed.most allowed.apart range.low range.high;
  faultless = λ count.
      ap (λ l. section_faults (ss ++ l) ends)
      (ospf_block_sections distance p allowed.some allowed.most allowed.apart range.low range.high count)
      ∙ (ospf_extends distance ss ends (count + 1) fine p running).faultless;
  made = λ count. (ospf_extends distance ss ends (count + 1) fine p running).made
      ∙ ap (λ l. configuration_of (ss ++ l))
      (sym (ospf_block_sections distance p allowed.some allowed.most allowed.apart range.low range.high count));
}

ospf_sets : (distance : ℕ) (ss : List Section) (ends : ℕ) → IsAllowed (ospf_at distance) → section_faults ss ends ≡ [] → IsProcess (process_of ss) →
    Grows ss ends (text_of (ospf_distance_lines distance (process_of ss))) (with_setting (ospf_at distance) (configuration_of ss))
ospf_sets distance ss ends allowed fine range = by_process (process_of ss) refl
  where
    by_process : (o : Option ℕ) → process_of ss ≡ o →
        Grows ss ends (text_of (ospf_distance_lines distance (process_of ss))) (with_setting (ospf_at distance) (configuration_of ss))
    by_process None has =
        subst (λ t. Grows ss ends t (with_setting (ospf_at distance) (configuration_of ss))) (sym (ap (λ o. text_of (ospf_distance_lines distance o)) has))
        (subst (λ g. Grows ss ends [] g)
        (sym (ap (λ (o : Option ℕ). cond (is_some o) (with_ospf_at distance (configuration_of ss)) (configuration_of ss)) has))
        (nothing_grows ss ends fine))
    by_process (Some p) has =
        subst (λ t. Grows ss ends t (with_setting (ospf_at distance) (configuration_of ss))) (sym (ap (λ o. text_of (ospf_distance_lines distance o)) has))
        (subst (λ g. Grows ss ends (ospf_block distance p) g)
        (sym (ap (λ (o : Option ℕ). cond (is_some o) (with_ospf_at distance (configuration_of ss)) (configuration_of ss)) has))
        (ospf_grows distance ss ends p allowed fine (subst (λ o. IsProcess o) has range) has))

one_grows : (s : Setting) (ss : List Section) (ends : ℕ) → IsAllowed s → section_faults ss ends ≡ [] → IsProcess (process_of ss) →
    Grows ss ends (text_of (setting_lines (configuration_of ss) s)) (with_setting s (configuration_of ss))
one_grows (isis_at distance) ss ends allowed fine range = isis_sets distance ss ends allowed fine
one_grows (ospf_at distance) ss ends allowed fine range = ospf_sets distance ss ends allowed fine range

-- ---- settings one after the other ----

either_is : {A B : Type 0} (f : A → B) (v : B) (b : Bool) (x y : A) → f x ≡ v → f y ≡ v → f (cond b x y) ≡ v
either_is f v b x y one other = grind (arith, common_steps)

-- what is set is a distance alone: what has lines, and which, stays
pub kept_by : {B : Type 0} (f : Configuration → B) (s : Setting) (c : Configuration) → ((o i : ℕ) → f (with_distances o i c) ≡ f c) → f (with_setting s c) ≡ f c
kept_by f s c bar = grind (arith, common_steps, either_is)

bar_lines : (t : Setting) (o i : ℕ) (c : Configuration) → setting_lines (with_distances o i c) t ≡ setting_lines c t
bar_lines t o i c = grind (arith, common_steps)

pub all_grow : (settings : List Setting) (ss : List Section) (ends : ℕ) → All IsAllowed settings → section_faults ss ends ≡ [] → IsProcess (process_of ss) →
    Grows ss ends (text_of (flat_map (setting_lines (configuration_of ss)) settings)) (with_settings settings (configuration_of ss))
all_grow [] ss ends allowed fine range = nothing_grows ss ends fine
all_grow (s ∷ settings) ss ends allowed fine range =
    let begun = one_grows s ss ends (All-head IsAllowed s settings allowed) fine range in
    subst (λ t. Grows ss ends t (with_settings settings (with_setting s (configuration_of ss))))
    (sym (text_of-append (setting_lines (configuration_of ss) s) (flat_map (setting_lines (configuration_of ss)) settings)))
    (both_grow ss ends (text_of (setting_lines (configuration_of ss) s)) (text_of (flat_map (setting_lines (configuration_of ss)) settings))
    (with_setting s (configuration_of ss)) (with_settings settings (with_setting s (configuration_of ss))) begun
    (λ count. later count (begun.faultless count) (begun.made count)
    (λ still range. all_grow settings (ss ++ sections_further_on count (text_of (setting_lines (configuration_of ss) s))) ends
    (All-tail IsAllowed s settings allowed) still range)))
  where
    later : (count : ℕ) → section_faults (ss ++ sections_further_on count (text_of (setting_lines (configuration_of ss) s))) ends ≡ [] →
        with_setting s (configuration_of ss) ≡ configuration_of (ss ++ sections_further_on count (text_of (setting_lines (configuration_of ss) s))) →
        (section_faults (ss ++ sections_further_on count (text_of (setting_lines (configuration_of ss) s))) ends ≡ [] →
        IsProcess (process_of (ss ++ sections_further_on count (text_of (setting_lines (configuration_of ss) s)))) →
        Grows (ss ++ sections_further_on count (text_of (setting_lines (configuration_of ss) s))) ends
        (text_of (flat_map (setting_lines (configuration_of (ss ++ sections_further_on count (text_of (setting_lines (configuration_of ss) s))))) settings))
        (with_settings settings (configuration_of (ss ++ sections_further_on count (text_of (setting_lines (configuration_of ss) s)))))) →
        Grows (ss ++ sections_further_on count (text_of (setting_lines (configuration_of ss) s))) ends
        (text_of (flat_map (setting_lines (configuration_of ss)) settings)) (with_settings settings (with_setting s (configuration_of ss)))
    later count still made rest =
        let c : Configuration = configuration_of ss in
        let more : List Section = ss ++ sections_further_on count (text_of (setting_lines c s)) in
        let process : process_of more ≡ process_of ss =
        sym (ap (λ (g : Configuration). g.process) made) ∙ kept_by (λ (g : Configuration). g.process) s c (λ o i. refl) in
        let lines : flat_map (setting_lines (configuration_of more)) settings ≡ flat_map (setting_lines c) settings =
        same_flat (setting_lines (configuration_of more)) (setting_lines c)
        (λ t. ap (λ (g : Configuration). setting_lines g t) (sym made) ∙ kept_by (λ (g : Configuration). setting_lines g t) s c (λ o i. bar_lines t o i c))
        settings in
        subst (λ g. Grows more ends (text_of (flat_map (setting_lines c) settings)) (with_settings settings g)) (sym made)
        (subst (λ (l : List (List ℕ)). Grows more ends (text_of l) (with_settings settings (configuration_of more))) lines
        (rest still (subst (λ o. IsProcess o) (sym process) range)))

-- ---- the changes ----

-- what the changes that lead to a phase set
abbrev settings_to : Phase → List Setting
settings_to Old = []
settings_to Middle = isis_at ISIS_DISTANCE ∷ []
settings_to New = isis_at ISIS_DISTANCE ∷ ospf_at MOST_DISTANCE ∷ []

first_allowed : IsAllowed (isis_at ISIS_DISTANCE)
first_allowed = inl refl

second_allowed : IsAllowed (ospf_at MOST_DISTANCE)
second_allowed = record { some = omega arith; most = omega arith; apart = λ e. omega (arith, e) }

settings_allowed : (phase : Phase) → All IsAllowed (settings_to phase)
settings_allowed phase = grind (arith, common_steps, All-cons, All-nil, first_allowed, second_allowed)

settings_lines : (phase : Phase) (c : Configuration) → flat_map (setting_lines c) (settings_to phase) ≡ lines_to phase c
settings_lines phase c = grind (arith, common_steps)

settings_made : (phase : Phase) (c : Configuration) → with_settings (settings_to phase) c ≡ in_phase phase c
settings_made phase c = grind (arith, common_steps)

-- the lines that take a router to a phase
pub phase_grows : (ss : List Section) (ends : ℕ) (phase : Phase) → section_faults ss ends ≡ [] → IsProcess (process_of ss) →
    Grows ss ends (text_of (lines_to phase (configuration_of ss))) (in_phase phase (configuration_of ss))
phase_grows ss ends phase fine range =
    rw (← settings_lines phase (configuration_of ss), ← settings_made phase (configuration_of ss))
    (all_grow (settings_to phase) ss ends (settings_allowed phase) fine range)
