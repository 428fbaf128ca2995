-- The configuration of a router with the lines that are written for it: no fault comes with them, and its IS-IS is what is settled.
use Rattle.std.proofs.Common.{arith}
use Rattle.std.proofs.lemmas.Grind.{common_steps}
use Rattle.std.proofs.Common.{◌≡◌, ℕ, ◌+◌, Bool, true, false, cond, List, [], ◌∷◌, ◌++◌, get_or, map, Option, Some, None}
use Rattle.std.proofs.Common.{refl, sym, ap, subst, ◌∙◌, append-nil, bytes_eq}
use Rattle.std.specs.Prelude.{All, IsSome, flat_map, filter_map, fold, unwrap_or, is_some}
use Rattle.std.specs.List.{list_any}
use Rattle.net_model.specs.Configuration.{Configuration}
use Rattle.net_model.specs.declared.bounds.TheConstants.{ISIS_DISTANCE}
use Rattle.net_model.specs.declared.config.Levels.{Levels}
use Rattle.net_model.specs.declared.config.Levels.TheVariants.{Both}
use Rattle.net_model.specs.declared.interface.Interface.{Interface}
use Rattle.printed_lines.specs.Texts.{text_of}
use Rattle.ios_lines.specs.Words.{Word}
use Rattle.ios_lines.specs.Lookups.{last_of, value_or}
use Rattle.ios_lines.specs.declared.fault.Fault.{Fault}
use Rattle.ios_lines.specs.declared.title.Title.{Title}
use Rattle.ios_lines.specs.declared.interface_line.InterfaceStatement.{InterfaceStatement}
use Rattle.ios_lines.specs.declared.isis_line.IsisStatement.{IsisStatement}
use Rattle.ios_lines.specs.declared.ospf_line.OspfStatement.{OspfStatement}
use Rattle.ios_sections.specs.TextLines.{Part}
use Rattle.ios_sections.specs.Sections.{sections_in}
use Rattle.ios_sections.specs.Processes.{as_hostname, as_ospf, as_isis, as_fault, interfaces_in, mention_of, mentions_in, mentions_of, first_process}
use Rattle.ios_sections.specs.Processes.{first_tag}
use Rattle.ios_sections.specs.ProcessFaults.{process_faults, ospf_statement_faults, isis_statement_faults, second_titles, lacking}
use Rattle.ios_sections.specs.declared.process.Mention.{Mention}
use Rattle.ios_sections.specs.declared.section.Section.{Section}
use Rattle.ios_sections.specs.declared.section.InterfaceSection.{InterfaceSection}
use Rattle.ios_sections.specs.declared.section.OspfSection.{OspfSection}
use Rattle.ios_sections.specs.declared.section.IsisSection.{IsisSection}
use Rattle.ios_reader.specs.Routers.{router_with, title_said, isis_distance_said, leak_said}
use Rattle.ios_reader.specs.InterfacesAsRead.{interface_as_read}
use Rattle.ios_reader.specs.Faults.{interface_faults, section_faults}
use Rattle.ios_reader.specs.Configurations.{title_given, area_in, system_in, configuration_of}
use Rattle.ios_reader.proofs.LookedUp.{HasNoFault, no_fault_from, no_fault_by, made_by, process_by, ospf_lines_by, isis_lines_by, configuration_by}
use Rattle.ios_reader.proofs.GrownSections.{Grows}
use Rattle.design_file.specs.Settling.{FitsRouter, AreForSome}
use Rattle.design_file.specs.declared.settled.SettledInterface.{SettledInterface}
use Rattle.design_file.specs.declared.settled.SettledRouter.{SettledRouter}
use Rattle.isis_writer.specs.RouterLines.{is_old_line, has_old_line, router_lines}
use Rattle.isis_writer.specs.PreparedConfigurations.{system_id, settled_for, prepared_interface, with_router}
use Rattle.isis_writer.proofs.ListFacts.{map_twice, same_map, same_flat, none_flat, flat_none}
use Rattle.isis_writer.proofs.MoreSections.{new_sections, name_stays, ospf_stays, isis_grows, interfaces_grow, heads_stay, Apart, AreAmong, names_of, grown}
use Rattle.isis_writer.proofs.MoreSections.{all_grown, same_name, name_same}
use Rattle.isis_writer.proofs.GrownInterfaces.{SectionGrows, unsettled_grows, settled_grows, before, after}
use Rattle.isis_writer.proofs.SettledFacts.{interfaces_named, interfaces_apart, names_in, AreIn, SettledWell, settled_well}
use Rattle.isis_writer.proofs.SettledFacts.{no_old_line}
use Rattle.isis_writer.proofs.RouterBlocks.{written_process, written_interfaces, behind, RouterBlock, router_block, behind_process, not_written, WrittenFor}
use Rattle.isis_writer.proofs.RouterBlocks.{written_for, isis_says_from}
use Rattle.isis_writer.proofs.RouterWords.{process_says}
use Rattle.isis_writer.proofs.ProcessFacts.{title_is, levels_are, distance_is, leak_is, passive_none, passive_is, lines_fine, one_title, lacks_none}

-- the names of the sections that are written
are_among : (old : List InterfaceSection) (count : ℕ) (ts : List SettledInterface) (ns : List Word) → AreIn ts ns →
    AreAmong (written_interfaces old count ts) ns
are_among old count [] ns all = tt
are_among old count (t ∷ ts) ns all = (all.0, are_among old (behind old count t) ts ns all.1)

-- ---- a configuration by what it is looked up by ----

module _ (name : Option Word) (is : List InterfaceSection) (ospf : List OspfSection) (heads : List Fault) (ends count number from : ℕ)
    (router : SettledRouter) where
  abbrev process : Option ℕ
  process = process_by ospf is

  abbrev ours : List OspfStatement
  ours = ospf_lines_by process ospf

  abbrev p : IsisSection
  p = written_process count number router

  abbrev others : List IsisStatement
  others = isis_says_from (count + 2) (process_says number router)

  abbrev made : InterfaceSection → InterfaceSection
  made s = fold grown s (written_interfaces is from router.interfaces)

  abbrev longer : List InterfaceSection
  longer = map made is

  abbrev read : InterfaceSection → Interface
  read s = interface_as_read (before process ours others) s

  -- what becomes of a section of an interface
  abbrev IsGrown : InterfaceSection → Type 0
  IsGrown s = SectionGrows process ours others router.levels (settled_for s.name router.interfaces) s (made s)

  levels_read : (router_with process ours others).levels ≡ router.levels
  levels_read = ap (λ o. value_or o Both) (levels_are number router (count + 2))

  section_grown : (s : InterfaceSection) → Apart (names_in router.interfaces) → interface_faults (before process ours others) None s ≡ [] →
      ((t : SettledInterface) → settled_for s.name router.interfaces ≡ Some t → IsSome (read s).subnet) →
      ((other : Word) → has_old_line is other ≡ false → bytes_eq s.name other ≡ true →
      list_any (λ (l : InterfaceStatement). is_old_line l.says) s.lines ≡ false) →
      ((t : SettledInterface) → settled_for s.name router.interfaces ≡ Some t → bytes_eq s.name t.name ≡ true) → IsGrown s
  section_grown s apart fine addressed no_old named = by_settled (settled_for s.name router.interfaces) refl
    where
      by_settled : (o : Option SettledInterface) → settled_for s.name router.interfaces ≡ o → SectionGrows process ours others router.levels o s (made s)
      by_settled None e =
          subst (λ (x : InterfaceSection). SectionGrows process ours others router.levels None s x) (sym (not_written is s from router.interfaces e))
          (unsettled_grows process ours others router.levels s fine (passive_none number router (count + 2) s.name e))
      by_settled (Some t) e =
          let written : WrittenFor is s t (written_interfaces is from router.interfaces) = written_for is s from router.interfaces t apart e in
          subst (λ (x : InterfaceSection). SectionGrows process ours others router.levels (Some t) s x) (sym written.is)
          (settled_grows process ours others router.levels t s written.from (has_old_line is t.name) fine
          (passive_is number router (count + 2) s.name t apart e) levels_read
          (addressed t e) (λ none. no_old t.name none (named t e)))

  module _ (all : All IsGrown is) where
    mentions_same : mentions_of ospf longer ≡ mentions_of ospf is
    mentions_same = ap (λ (ms : List Mention). map mention_of ospf ++ ms) (same_flat mentions_in mentions_in made is (λ k d lt. (all k d lt).mentions))

    process_same : process_by ospf longer ≡ process
    process_same = ap first_process mentions_same

    lines_same : isis_lines_by (p ∷ []) ≡ others
    lines_same = append-nil others

    interfaces_fine : flat_map (interface_faults (after process ours others) (Some [])) longer ≡ []
    interfaces_fine = flat_none (interface_faults (after process ours others) (Some [])) made is (λ k d lt. (all k d lt).faultless)

    pub grown_fine : HasNoFault name is ospf [] heads ends → HasNoFault name longer ospf (p ∷ []) heads ends
    grown_fine n = record {
      heads_fine = n.heads_fine;
      one_process = ap (λ (ms : List Mention). flat_map (process_faults (first_process ms)) ms) mentions_same ∙ n.one_process;
      ospf_fine = ap (λ q. flat_map ospf_statement_faults (ospf_lines_by q ospf)) process_same ∙ n.ospf_fine;
      one_tag = refl;
      isis_fine = ap (flat_map isis_statement_faults) lines_same ∙ lines_fine number router (count + 2);
      one_title = ap second_titles lines_same ∙ one_title number router (count + 2);
      lacks_none = ap (lacking (Some (count + 1))) lines_same ∙ lacks_none number router (count + 2) (count + 1);
      interfaces_fine =
          ap (λ q. flat_map (interface_faults (router_with q (ospf_lines_by q ospf) (isis_lines_by (p ∷ []))) (Some [])) longer) process_same
          ∙ ap (λ (l : List IsisStatement). flat_map (interface_faults (router_with process ours l) (Some [])) longer) lines_same
          ∙ interfaces_fine;
      named = n.named;
    }

    -- a configuration by what its interfaces and its IS-IS are
    abbrev by_parts : List Interface → Option Title → Levels → Bool → ℕ → Configuration
    by_parts its title levels leak distance = record (configuration_by name is ospf (p ∷ [])) {
      interfaces = its;
      isis_area = area_in title;
      system = system_in title;
      levels = levels;
      leak = leak;
      distances = record (configuration_by name is ospf (p ∷ [])).distances { isis = distance };
    }

    abbrev title_in : List IsisStatement → Option Title
    title_in l = title_given (last_of (λ (s : IsisStatement). title_said s.says) l)

    abbrev leaks_in : List IsisStatement → Bool
    leaks_in l = unwrap_or (last_of (λ (s : IsisStatement). leak_said s.says) l) false

    abbrev distance_in : List IsisStatement → ℕ
    distance_in l = value_or (last_of (λ (s : IsisStatement). isis_distance_said s.says) l) ISIS_DISTANCE

    interfaces_read : map (interface_as_read (after process ours others)) longer ≡ map (prepared_interface router) (map read is)
    interfaces_read =
        map_twice (interface_as_read (after process ours others)) made is
        ∙ same_map (λ (s : InterfaceSection). interface_as_read (after process ours others) (made s))
        (λ (s : InterfaceSection). prepared_interface router (read s)) is
        (λ k d lt. (all k d lt).read)
        ∙ sym (map_twice (prepared_interface router) read is)

    pub grown_made : configuration_by name longer ospf (p ∷ []) ≡ with_router number router (configuration_by name is ospf [])
    grown_made =
        let its : List Interface = map (prepared_interface router) (map read is) in
        let title : Option Title = Some (record { area = router.area; system = system_id number }) in
        rw process_same refl
        ∙ ap (λ (l : List IsisStatement). by_parts (map (interface_as_read (router_with process ours l)) longer) (title_in l)
        (router_with process ours l).levels (leaks_in l) (distance_in l)) lines_same
        ∙ ap (λ (i : List Interface). by_parts i (title_in others) (after process ours others).levels (leaks_in others) (distance_in others))
        interfaces_read
        ∙ ap (λ o. by_parts its (title_given o) (after process ours others).levels (leaks_in others) (distance_in others))
        (title_is number router (count + 2))
        ∙ ap (λ (l : Levels). by_parts its title l (leaks_in others) (distance_in others)) levels_read
        ∙ ap (λ (b : Bool). by_parts its title router.levels b (distance_in others)) (leak_is number router (count + 2))
        ∙ ap (λ o. by_parts its title router.levels router.leak (value_or o ISIS_DISTANCE)) (distance_is number router (count + 2))

-- ---- sections ----

no_isis : (l : List IsisSection) → is_some (first_tag l) ≡ false → l ≡ []
no_isis l none = grind (arith, common_steps)

found_name : (name : Word) (ts : List SettledInterface) (t : SettledInterface) → settled_for name ts ≡ Some t → bytes_eq name t.name ≡ true
found_name name [] t e = absurd cc
found_name name (u ∷ ts) t e = by_test (bytes_eq u.name name) refl e (λ h. found_name name ts t h)
  where
    by_test : (b : Bool) → bytes_eq u.name name ≡ b → cond b (Some u) (settled_for name ts) ≡ Some t →
        (settled_for name ts ≡ Some t → bytes_eq name t.name ≡ true) → bytes_eq name t.name ≡ true
    by_test false off e later = later e
    by_test true same e later =
        let is : u ≡ t = cc in
        subst (λ (v : SettledInterface). bytes_eq name v.name ≡ true) is
        (subst (λ (n : Word). bytes_eq n u.name ≡ true) (same_name u.name name same) (name_same u.name))

-- the lines of a router for which something is settled, behind its sections
pub router_grows : (part : Part) (ends number : ℕ) (router : SettledRouter) → section_faults (sections_in part) ends ≡ [] →
    FitsRouter (configuration_of (sections_in part)) router →
    Grows (sections_in part) ends (text_of (router_lines (interfaces_in (sections_in part)) number router))
    (with_router number router (configuration_of (sections_in part)))
router_grows part ends number router fine fits =
    let ss : List Section = sections_in part in
    let none : filter_map as_isis ss ≡ [] = no_isis (filter_map as_isis ss) fits.no_isis in
    let name : Option Word = last_of as_hostname ss in
    let is : List InterfaceSection = interfaces_in ss in
    let ospf : List OspfSection = filter_map as_ospf ss in
    let heads : List Fault = filter_map as_fault ss in
    let known : HasNoFault name is ospf [] heads ends = subst (λ l. HasNoFault name is ospf l heads ends) none (no_fault_from ss ends fine) in
    let made_before : configuration_of ss ≡ configuration_by name is ospf [] = made_by ss name is ospf [] refl refl refl none in
    let apart : Apart (names_of is) = interfaces_apart ss in
    let reading : InterfaceSection → Interface = interface_as_read (router_with (process_by ospf is) (ospf_lines_by (process_by ospf is) ospf) []) in
    let for : AreForSome (map reading is) router.interfaces =
    subst (λ (c : Configuration). AreForSome c.interfaces router.interfaces) made_before fits.interfaces in
    let well : SettledWell reading (λ s. refl) is router.interfaces =
    settled_well reading (λ s. refl) is router.interfaces (interfaces_named part) apart for in
    let block : RouterBlock is number router = router_block is number router fits.area well.words well.metrics in
    let js : ℕ → List InterfaceSection = λ count. written_interfaces is (behind_process count number router) router.interfaces in
    let all : (count : ℕ) → All (IsGrown name is ospf heads ends count number (behind_process count number router) router) is =
    λ count. λ k d lt.
    section_grown name is ospf heads ends count number (behind_process count number router) router (get_or is k d) well.apart
    (none_flat (interface_faults (before (process_by ospf is) (ospf_lines_by (process_by ospf is) ospf) []) None) is known.interfaces_fine k d lt)
    (well.addressed k d lt) (λ other e. no_old_line is other e k d lt) (found_name (get_or is k d).name router.interfaces) in
    record {
      fits = block.fits;
      faultless = λ count.
          ap (λ (l : List Section). section_faults (ss ++ l) ends) (block.says count)
          ∙ no_fault_by (ss ++ new_sections (written_process count number router) (js count)) ends name
          (map (λ (s : InterfaceSection). fold grown s (js count)) is) ospf (written_process count number router ∷ []) heads
          (name_stays ss (written_process count number router) (js count))
          (interfaces_grow ss (written_process count number router) (js count)
          ∙ all_grown (js count) is apart (are_among is (behind_process count number router) router.interfaces (names_of is) well.among))
          (ospf_stays ss (written_process count number router) (js count))
          (isis_grows ss (written_process count number router) (js count)
          ∙ ap (λ (l : List IsisSection). l ++ written_process count number router ∷ []) none)
          (heads_stay ss (written_process count number router) (js count))
          (grown_fine name is ospf heads ends count number (behind_process count number router) router (all count) known);
      made = λ count.
          ap (with_router number router) made_before
          ∙ sym (grown_made name is ospf heads ends count number (behind_process count number router) router (all count))
          ∙ sym (made_by (ss ++ new_sections (written_process count number router) (js count)) name
          (map (λ (s : InterfaceSection). fold grown s (js count)) is) ospf (written_process count number router ∷ [])
          (name_stays ss (written_process count number router) (js count))
          (interfaces_grow ss (written_process count number router) (js count)
          ∙ all_grown (js count) is apart (are_among is (behind_process count number router) router.interfaces (names_of is) well.among))
          (ospf_stays ss (written_process count number router) (js count))
          (isis_grows ss (written_process count number router) (js count)
          ∙ ap (λ (l : List IsisSection). l ++ written_process count number router ∷ []) none))
          ∙ ap (λ (l : List Section). configuration_of (ss ++ l)) (sym (block.says count));
    }
