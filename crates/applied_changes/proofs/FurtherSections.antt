-- A further section of a process that sets its distance, to whatever it is: no fault comes with it, and nothing but the distance
-- changes.
use Rattle.std.proofs.lemmas.Grind.{common_steps}
use Rattle.std.proofs.Common.{◌≡◌, ℕ, ◌+◌, Bool, true, false, not, ◌||◌, cond, List, [], ◌∷◌, ◌++◌, map, Option}
use Rattle.std.proofs.Common.{Some, None, Ok, refl, sym}
use Rattle.std.proofs.Common.{ap, subst, ◌∙◌, nat_eq, nat_lt, length, ◌<◌, arith}
use Rattle.std.specs.Prelude.{filter_map, fold, unwrap_or, option_map, bytes_eq}
use Rattle.std.specs.List.{flat_map, list_any, list_all}
use Rattle.std.proofs.lemmas.Bool.{eqb-true, eq-eqb}
use Rattle.std.proofs.lemmas.List.{map-append}
use Rattle.std.proofs.lemmas.Slice.Eq.{bytes_eq-Decides}
use Rattle.std.proofs.lemmas.List.Concat.{flat_map-append}
use Rattle.std.proofs.lemmas.List.Elements.{filter-append, filter_map-append}
use Rattle.std.proofs.lemmas.List.Folds.{list_any-append}
use Rattle.net_model.specs.Configuration.{Configuration}
use Rattle.ios_lines.specs.Words.{Word, is_printable}
use Rattle.ios_lines.specs.Lookups.{later, last_of, earlier, first_of, replaced}
use Rattle.ios_lines.proofs.LineLookups.{last_of-push}
use Rattle.ios_lines.specs.FaultOrder.{faults_if}
use Rattle.ios_lines.specs.InterfaceLines.{counting}
use Rattle.ios_lines.specs.declared.kind.ReadKind.{ReadKind}
use Rattle.ios_lines.specs.declared.kind.ReadKind.TheVariants.{SecondProcess}
use Rattle.ios_lines.specs.declared.fault.Fault.{Fault}
use Rattle.ios_lines.specs.declared.address.InterfaceAddress.{InterfaceAddress}
use Rattle.ios_lines.specs.declared.ospf_line.StubLine.{StubLine}
use Rattle.net_model.specs.declared.area.Stub.{Stub}
use Rattle.ios_reader.specs.declared.facts.InterfaceFacts.{InterfaceFacts}
use Rattle.ios_lines.specs.declared.isis_line.IsisStatement.{IsisStatement}
use Rattle.ios_lines.specs.declared.isis_line.IsisLine.TheVariants.{Distance as IsisDistance}
use Rattle.ios_lines.specs.declared.ospf_line.OspfStatement.{OspfStatement}
use Rattle.ios_lines.specs.declared.ospf_line.OspfLine.TheVariants.{Distance as OspfDistance}
use Rattle.ios_sections.specs.Processes.{mention_of, mentions_in, mentions_of, first_mention, first_process, first_tag}
use Rattle.ios_sections.specs.ProcessFaults.{process_faults, ospf_statement_faults}
use Rattle.ios_sections.specs.declared.process.Mention.{Mention}
use Rattle.ios_sections.specs.declared.section.IsisSection.{IsisSection}
use Rattle.ios_sections.specs.declared.section.OspfSection.{OspfSection}
use Rattle.ios_sections.specs.declared.section.InterfaceSection.{InterfaceSection}
use Rattle.ios_reader.specs.Routers.{Router, router_with}
use Rattle.ios_reader.specs.Routers.{ospf_distance_said, ospf_passive_said, passive_default_said, reference_said, area_taken, range_said}
use Rattle.ios_reader.specs.Routers.{is_same_range, rfc1583_said, ranges_in, stubs_in}
use Rattle.ios_reader.specs.InterfacesAsRead.{address_given, area_by, area_with, interface_area, interface_as_read}
use Rattle.ios_reader.specs.InterfaceFacts.{facts_of}
use Rattle.ios_reader.specs.Faults.{interface_faults}
use Rattle.ios_reader.proofs.LookedUp.{two_none, none_left, none_right, ospf_lines_by, isis_lines_by, process_by, HasNoFault, configuration_by}
use Rattle.applied_changes.specs.AppliedTexts.{with_distances}

-- ---- one item more at the end of a list ----

pub last_stays : {A B : Type 0} (form : A → Option B) (xs : List A) (x : A) → form x ≡ None → last_of form (xs ++ x ∷ []) ≡ last_of form xs
last_stays form xs x none = last_of-push form xs x ∙ ap (later (last_of form xs)) none

pub last_is : {A B : Type 0} (form : A → Option B) (xs : List A) (x : A) (b : B) → form x ≡ Some b → last_of form (xs ++ x ∷ []) ≡ Some b
last_is form xs x b some = last_of-push form xs x ∙ ap (later (last_of form xs)) some

pub first_stays : {A B : Type 0} (form : A → Option B) (xs : List A) (x : A) → form x ≡ None → first_of form (xs ++ x ∷ []) ≡ first_of form xs
first_stays form [] x none = ap (λ o. earlier o None) none
first_stays form (y ∷ xs) x none = ap (earlier (form y)) (first_stays form xs x none)

pub left_out : {A B : Type 0} (form : A → Option B) (xs : List A) (x : A) → form x ≡ None → filter_map form (xs ++ x ∷ []) ≡ filter_map form xs
left_out {A} {B} form xs x none = grind (arith, common_steps, filter_map-append)

same_map : {A B : Type 0} (f g : A → B) → ((x : A) → f x ≡ g x) → (xs : List A) → map f xs ≡ map g xs
same_map f g same [] = refl
same_map f g same (x ∷ xs) = ap (λ y. y ∷ map f xs) (same x) ∙ ap (λ l. g x ∷ l) (same_map f g same xs)

or_false : (b : Bool) → (b || false) ≡ b
or_false b = grind (arith, common_steps)

not_faulty : (b : Bool) (line : ℕ) (kind : ReadKind) → faults_if (not b) line kind ≡ [] → b ≡ true
not_faulty b line kind e = grind (arith, common_steps)

any_stays : {A : Type 0} (p : A → Bool) (xs : List A) (x : A) → p x ≡ false → list_any p (xs ++ x ∷ []) ≡ list_any p xs
any_stays p xs x off = list_any-append p xs (x ∷ []) ∙ ap (λ b. list_any p xs || (b || false)) off ∙ or_false (list_any p xs)

-- ---- a section of the IS-IS process more ----

-- the line that sets the distance, and its section
abbrev pub isis_setting : ℕ → ℕ → IsisStatement
isis_setting distance line = record { line = line; says = IsisDistance (Ok distance) }

abbrev pub isis_setting_section : ℕ → ℕ → Word → IsisSection
isis_setting_section distance line tag = record { line = line; tag = tag; lines = isis_setting distance (line + 1) ∷ [] }

-- with the distance of IS-IS
abbrev pub with_isis_at : ℕ → Configuration → Configuration
with_isis_at distance c = with_distances c.distances.ospf distance c

module _ (distance : ℕ) (name : Option Word) (interfaces : List InterfaceSection) (ospf : List OspfSection) (f : IsisSection) (more : List IsisSection)
    (heads : List Fault) (ends line : ℕ) where
  abbrev x : IsisSection
  x = isis_setting_section distance line f.tag

  abbrev d : IsisStatement
  d = isis_setting distance (line + 1)

  abbrev lines_before : List IsisStatement
  lines_before = isis_lines_by (f ∷ more)

  same_tag : bytes_eq f.tag f.tag ≡ true
  same_tag = (bytes_eq-Decides f.tag f.tag).1 refl

  pub tag_printable : HasNoFault name interfaces ospf (f ∷ more) heads ends → list_all is_printable f.tag ≡ true
  tag_printable n = grind (arith, common_steps, none_left, none_right, not_faulty)

  isis_lines_more : list_all is_printable f.tag ≡ true → isis_lines_by (f ∷ (more ++ x ∷ [])) ≡ lines_before ++ d ∷ []
  isis_lines_more printable = grind (arith, common_steps, flat_map-append, same_tag)

  pub isis_no_fault : HasNoFault name interfaces ospf (f ∷ more) heads ends → HasNoFault name interfaces ospf (f ∷ (more ++ x ∷ [])) heads ends
  isis_no_fault n =
      grind (arith, common_steps, any_stays, filter-append, flat_map-append, isis_lines_by, isis_lines_more, same_tag, tag_printable, two_none)

  abbrev process : Option ℕ
  process = process_by ospf interfaces

  abbrev others : List OspfStatement
  others = ospf_lines_by process ospf

  same_interface : (l : List IsisStatement) (s : InterfaceSection) →
      interface_as_read (router_with process others (l ++ d ∷ [])) s ≡ interface_as_read (router_with process others l) s
  same_interface l s = grind (arith, common_steps, last_stays)

  pub isis_made : list_all is_printable f.tag ≡ true →
      configuration_by name interfaces ospf (f ∷ (more ++ x ∷ [])) ≡ with_isis_at distance (configuration_by name interfaces ospf (f ∷ more))
  isis_made printable = grind (arith, common_steps, isis_lines_more, last_is, last_stays, same_interface, same_map)

-- ---- a section of the OSPF process more ----

abbrev pub ospf_setting : ℕ → ℕ → OspfStatement
ospf_setting distance line = record { line = line; says = OspfDistance (Ok distance) }

abbrev pub ospf_setting_section : ℕ → ℕ → ℕ → OspfSection
ospf_setting_section distance line process = record { line = line; process = process; lines = ospf_setting distance (line + 1) ∷ [] }

-- with the distance of OSPF
abbrev pub with_ospf_at : ℕ → Configuration → Configuration
with_ospf_at distance c = with_distances distance c.distances.isis c

module _ (p : ℕ) where
  first_of_all : (ms : List Mention) (m : Mention) → flat_map (process_faults (Some p)) ms ≡ [] → nat_eq m.process p ≡ true →
      option_map (λ (n : Mention). n.process) (fold first_mention (Some m) ms) ≡ Some p
  first_of_all [] m none is = ap Some (eqb-true m.process p is)
  first_of_all (n ∷ ms) m none is =
      by_line (nat_lt n.line m.line)
      (first_of_all ms n (none_right (process_faults (Some p) n) (flat_map (process_faults (Some p)) ms) none)
      (not_faulty (nat_eq n.process p) n.line SecondProcess (none_left (process_faults (Some p) n) (flat_map (process_faults (Some p)) ms) none)))
      (first_of_all ms m (none_right (process_faults (Some p) n) (flat_map (process_faults (Some p)) ms) none) is)
    where
      by_line : (b : Bool) → option_map (λ (k : Mention). k.process) (fold first_mention (Some n) ms) ≡ Some p →
          option_map (λ (k : Mention). k.process) (fold first_mention (Some m) ms) ≡ Some p →
          option_map (λ (k : Mention). k.process) (fold first_mention (cond b (Some n) (Some m)) ms) ≡ Some p
      by_line true one other = one
      by_line false one other = other

  -- where some line names a process, and each one names this, it is the router's
  one_process_named : (ms : List Mention) → flat_map (process_faults (Some p)) ms ≡ [] → 0 < length ms → first_process ms ≡ Some p
  one_process_named [] none some = absurd (omega (arith, some))
  one_process_named (m ∷ ms) none some =
      first_of_all ms m (none_right (process_faults (Some p) m) (flat_map (process_faults (Some p)) ms) none)
      (not_faulty (nat_eq m.process p) m.line SecondProcess (none_left (process_faults (Some p) m) (flat_map (process_faults (Some p)) ms) none))

pub same_flat : {A B : Type 0} (f g : A → List B) → ((x : A) → f x ≡ g x) → (xs : List A) → flat_map f xs ≡ flat_map g xs
same_flat f g same [] = refl
same_flat f g same (x ∷ xs) = ap (λ l. l ++ flat_map f xs) (same x) ∙ ap (λ l. g x ++ l) (same_flat f g same xs)

module _ (distance : ℕ) (name : Option Word) (interfaces : List InterfaceSection) (ospf : List OspfSection) (isis : List IsisSection) (heads : List Fault)
    (ends line p : ℕ) (running : process_by ospf interfaces ≡ Some p) where
  abbrev y : OspfSection
  y = ospf_setting_section distance line p

  abbrev e : OspfStatement
  e = ospf_setting distance (line + 1)

  abbrev sections : List OspfSection
  sections = ospf ++ y ∷ []

  abbrev told : Mention → List Fault
  told = process_faults (Some p)

  abbrev by_sections : List Mention
  by_sections = map mention_of ospf

  abbrev by_interfaces : List Mention
  by_interfaces = flat_map mentions_in interfaces

  same_process : nat_eq p p ≡ true
  same_process = eq-eqb p p refl

  mentions_more : mentions_of sections interfaces ≡ (by_sections ++ mention_of y ∷ []) ++ by_interfaces
  mentions_more = ap (λ l. l ++ by_interfaces) (map-append mention_of ospf (y ∷ []))

  no_other : HasNoFault name interfaces ospf isis heads ends → flat_map told ((by_sections ++ mention_of y ∷ []) ++ by_interfaces) ≡ []
  no_other n = grind (arith, common_steps, flat_map-append, none_left, none_right, same_process, two_none)

  still_running : HasNoFault name interfaces ospf isis heads ends → process_by sections interfaces ≡ Some p
  still_running n = grind (arith, common_steps, mentions_more, no_other, one_process_named)

  abbrev own : List OspfStatement
  own = ospf_lines_by (Some p) ospf

  ospf_lines_more : ospf_lines_by (Some p) sections ≡ own ++ e ∷ []
  ospf_lines_more = grind (arith, common_steps, flat_map-append, same_process)

  abbrev all_isis : List IsisStatement
  all_isis = isis_lines_by isis

  abbrev router : List OspfStatement → Router
  router l = router_with (Some p) l all_isis

  abbrev facts : InterfaceSection → InterfaceFacts
  facts s = facts_of (counting s.lines)

  same_area : (l : List OspfStatement) (given : InterfaceFacts) → interface_area (router (l ++ e ∷ [])) given ≡ interface_area (router l) given
  same_area l given = by_address (address_given given.address)
    where
      by_address : (o : Option InterfaceAddress) → area_with (router (l ++ e ∷ [])) given o ≡ area_with (router l) given o
      by_address None = refl
      by_address (Some a) = ap (area_by (Some p) given.area) (first_stays (λ (s : OspfStatement). area_taken a.address s.says) l e refl)

  same_faults : (l : List OspfStatement) (s : InterfaceSection) → interface_faults (router (l ++ e ∷ [])) (first_tag isis) s ≡ interface_faults
      (router l) (first_tag isis) s
  same_faults l s = rw (same_area l (facts s), last_stays (λ (t : OspfStatement). reference_said t.says) l e refl) refl

  pub ospf_no_fault : HasNoFault name interfaces ospf isis heads ends → HasNoFault name interfaces sections isis heads ends
  ospf_no_fault n =
      let now : process_by sections interfaces ≡ Some p = still_running n in
      record {
        heads_fine = n.heads_fine;
        one_process =
            subst (λ q. flat_map (process_faults q) (mentions_of sections interfaces) ≡ []) (sym now) (ap (flat_map told) mentions_more ∙ no_other n);
        ospf_fine =
            subst (λ q. flat_map ospf_statement_faults (ospf_lines_by q sections) ≡ []) (sym now)
            (ap (flat_map ospf_statement_faults) ospf_lines_more
            ∙ flat_map-append ospf_statement_faults own (e ∷ [])
            ∙ two_none (flat_map ospf_statement_faults own) (flat_map ospf_statement_faults (e ∷ []))
            (subst (λ q. flat_map ospf_statement_faults (ospf_lines_by q ospf) ≡ []) running n.ospf_fine) refl);
        one_tag = n.one_tag;
        isis_fine = n.isis_fine;
        one_title = n.one_title;
        lacks_none = n.lacks_none;
        interfaces_fine =
            subst (λ q. flat_map (interface_faults (router_with q (ospf_lines_by q sections) all_isis) (first_tag isis)) interfaces ≡ []) (sym now)
            (ap (λ l. flat_map (interface_faults (router l) (first_tag isis)) interfaces) ospf_lines_more
            ∙ same_flat (interface_faults (router (own ++ e ∷ [])) (first_tag isis)) (interface_faults (router own) (first_tag isis))
            (same_faults own) interfaces
            ∙ subst (λ q. flat_map (interface_faults (router_with q (ospf_lines_by q ospf) all_isis) (first_tag isis)) interfaces ≡ [])
            running n.interfaces_fine);
        named = n.named;
      }

  still_interface : (l : List OspfStatement) (s : InterfaceSection) → interface_as_read (router (l ++ e ∷ [])) s ≡ interface_as_read (router l) s
  still_interface l s =
      rw (
        same_area l (facts s),
        last_stays (λ (t : OspfStatement). reference_said t.says) l e refl,
        last_stays (λ (t : OspfStatement). ospf_passive_said s.name t.says) l e refl,
        last_stays (λ (t : OspfStatement). passive_default_said t.says) l e refl,
      ) refl

  same_ranges : (l : List OspfStatement) → ranges_in (l ++ e ∷ []) ≡ ranges_in l
  same_ranges l = ap (fold (replaced is_same_range) []) (left_out (λ (s : OspfStatement). range_said s.says) l e refl)

  abbrev stub_with : StubLine → Option ℕ → Stub
  stub_with s o = record { area = s.area; no_summary = s.no_summary; default_cost = unwrap_or o 1 }

  same_stubs : (l : List OspfStatement) → stubs_in (l ++ e ∷ []) ≡ stubs_in l
  same_stubs l = grind (arith, common_steps, last_stays, left_out, same_map)

  pub ospf_made : HasNoFault name interfaces ospf isis heads ends →
      configuration_by name interfaces sections isis ≡ with_ospf_at distance (configuration_by name interfaces ospf isis)
  ospf_made n =
      rw (
        still_running n,
        running,
        ospf_lines_more,
        same_map (interface_as_read (router (own ++ e ∷ []))) _ (still_interface own) interfaces,
        same_ranges own,
        same_stubs own,
        last_stays (λ (s : OspfStatement). rfc1583_said s.says) own e refl,
        last_is (λ (s : OspfStatement). ospf_distance_said s.says) own e (Ok distance) refl,
      ) refl
