-- A configuration and its faults, by what its sections are looked up by.
use Rattle.std.proofs.Common.{arith}
use Rattle.std.proofs.lemmas.Grind.{common_steps}
use Rattle.std.proofs.Common.{◌≡◌, ℕ, List, [], ◌∷◌, ◌++◌, map, Option, refl, ap, ◌∙◌}
use Rattle.std.specs.Prelude.{filter_map, unwrap_or, is_none}
use Rattle.std.specs.List.{flat_map}
use Rattle.net_model.specs.Configuration.{Configuration}
use Rattle.ios_lines.specs.Words.{Word}
use Rattle.ios_lines.specs.Lookups.{last_of}
use Rattle.ios_lines.specs.FaultOrder.{faults_if}
use Rattle.ios_lines.specs.declared.kind.ReadKind.TheVariants.{NoHostname}
use Rattle.ios_lines.specs.declared.fault.Fault.{Fault}
use Rattle.ios_lines.specs.declared.isis_line.IsisStatement.{IsisStatement}
use Rattle.ios_lines.specs.declared.ospf_line.OspfStatement.{OspfStatement}
use Rattle.ios_sections.specs.Processes.{as_hostname, as_ospf, as_isis, as_fault, interfaces_in, mentions_of, first_process, lines_of_process}
use Rattle.ios_sections.specs.Processes.{first_tag, lines_of_tag}
use Rattle.ios_sections.specs.ProcessFaults.{process_faults, ospf_statement_faults, tag_faults_of, isis_statement_faults, second_titles, lacking}
use Rattle.ios_sections.specs.ProcessFaults.{first_isis_line}
use Rattle.ios_sections.specs.declared.section.Section.{Section}
use Rattle.ios_sections.specs.declared.section.IsisSection.{IsisSection}
use Rattle.ios_sections.specs.declared.section.OspfSection.{OspfSection}
use Rattle.ios_sections.specs.declared.section.InterfaceSection.{InterfaceSection}
use Rattle.ios_reader.specs.Routers.{router_with}
use Rattle.ios_reader.specs.InterfacesAsRead.{interface_as_read}
use Rattle.ios_reader.specs.Faults.{interface_faults, section_faults}
use Rattle.ios_reader.specs.Configurations.{ospf_settings, isis_settings, configuration_of_settings, configuration_of}

pub two_none : (fs gs : List Fault) → fs ≡ [] → gs ≡ [] → fs ++ gs ≡ []
two_none fs gs one two = ap (λ l. l ++ gs) one ∙ two

-- where two lists have nothing together, neither has
pub none_left : {A : Type 0} (xs ys : List A) → xs ++ ys ≡ [] → xs ≡ []
none_left [] ys e = refl
none_left (x ∷ xs) ys e = absurd cc

pub none_right : {A : Type 0} (xs ys : List A) → xs ++ ys ≡ [] → ys ≡ []
none_right [] ys e = e
none_right (x ∷ xs) ys e = absurd cc

-- ---- what sections say, by what they are looked up by ----

-- the lines of the two processes
abbrev pub ospf_lines_by : Option ℕ → List OspfSection → List OspfStatement
ospf_lines_by process ospf = flat_map (lines_of_process process) ospf

abbrev pub isis_lines_by : List IsisSection → List IsisStatement
isis_lines_by isis = flat_map (lines_of_tag (first_tag isis)) isis

abbrev pub process_by : List OspfSection → List InterfaceSection → Option ℕ
process_by ospf interfaces = first_process (mentions_of ospf interfaces)

-- the faults of sections, one sort after the other
pub record HasNoFault (name : Option Word) (interfaces : List InterfaceSection) (ospf : List OspfSection) (isis : List IsisSection) (heads : List Fault)
    (ends : ℕ) : Type 0 where
  pub heads_fine : heads ≡ []
  pub one_process : flat_map (process_faults (process_by ospf interfaces)) (mentions_of ospf interfaces) ≡ []
  pub ospf_fine : flat_map ospf_statement_faults (ospf_lines_by (process_by ospf interfaces) ospf) ≡ []
  pub one_tag : flat_map (tag_faults_of (first_tag isis)) isis ≡ []
  pub isis_fine : flat_map isis_statement_faults (isis_lines_by isis) ≡ []
  pub one_title : second_titles (isis_lines_by isis) ≡ []
  pub lacks_none : lacking (first_isis_line isis) (isis_lines_by isis) ≡ []
  pub interfaces_fine :
      flat_map (interface_faults (router_with (process_by ospf interfaces) (ospf_lines_by (process_by ospf interfaces) ospf) (isis_lines_by isis))
      (first_tag isis)) interfaces ≡ []
  pub named : faults_if (is_none name) ends NoHostname ≡ []

pub no_fault_from : (ss : List Section) (ends : ℕ) → section_faults ss ends ≡ [] →
    HasNoFault (last_of as_hostname ss) (interfaces_in ss) (filter_map as_ospf ss) (filter_map as_isis ss) (filter_map as_fault ss) ends
no_fault_from ss ends e =
    let l1 = none_left _ _ e in
    let l2 = none_left _ _ l1 in
    let l3 = none_left _ _ l2 in
    let l4 = none_left _ _ l3 in
    let i0 = none_right _ _ l2 in
    let i1 = none_left _ _ i0 in
    let i2 = none_left _ _ i1 in
    record {
      heads_fine = none_left _ _ l4;
      one_process = none_right _ _ l4;
      ospf_fine = none_right _ _ l3;
      one_tag = none_left _ _ i2;
      isis_fine = none_right _ _ i2;
      one_title = none_right _ _ i1;
      lacks_none = none_right _ _ i0;
      interfaces_fine = none_right _ _ l1;
      named = none_right _ _ e;
    }

no_fault_to : (ss : List Section) (ends : ℕ) →
    HasNoFault (last_of as_hostname ss) (interfaces_in ss) (filter_map as_ospf ss) (filter_map as_isis ss) (filter_map as_fault ss) ends →
    section_faults ss ends ≡ []
no_fault_to ss ends n =
    two_none _ _
    (two_none _ _
    (two_none _ _ (two_none _ _ (two_none _ _ n.heads_fine n.one_process) n.ospf_fine)
    (two_none _ _ (two_none _ _ (two_none _ _ n.one_tag n.isis_fine) n.one_title) n.lacks_none))
    n.interfaces_fine)
    n.named

-- sections that are looked up alike have no fault either
pub no_fault_by : (ss : List Section) (ends : ℕ) (name : Option Word) (interfaces : List InterfaceSection) (ospf : List OspfSection)
    (isis : List IsisSection) (heads : List Fault) →
    last_of as_hostname ss ≡ name → interfaces_in ss ≡ interfaces → filter_map as_ospf ss ≡ ospf → filter_map as_isis ss ≡ isis → filter_map as_fault ss
    ≡ heads →
    HasNoFault name interfaces ospf isis heads ends → section_faults ss ends ≡ []
no_fault_by ss ends name interfaces ospf isis heads a b c d f n = grind (arith, common_steps, no_fault_to)

-- the configuration that sections make
abbrev pub configuration_by : Option Word → List InterfaceSection → List OspfSection → List IsisSection → Configuration
configuration_by name interfaces ospf isis =
    let process : Option ℕ = process_by ospf interfaces in
    let lines : List OspfStatement = ospf_lines_by process ospf in
    let others : List IsisStatement = isis_lines_by isis in
    configuration_of_settings (unwrap_or name []) (map (interface_as_read (router_with process lines others)) interfaces) (ospf_settings process lines)
    (isis_settings (first_tag isis) others)

pub made_by : (ss : List Section) (name : Option Word) (interfaces : List InterfaceSection) (ospf : List OspfSection) (isis : List IsisSection) →
    last_of as_hostname ss ≡ name → interfaces_in ss ≡ interfaces → filter_map as_ospf ss ≡ ospf → filter_map as_isis ss ≡ isis →
    configuration_of ss ≡ configuration_by name interfaces ospf isis
made_by ss name interfaces ospf isis a b c d =
    ap (λ v. configuration_by v (interfaces_in ss) (filter_map as_ospf ss) (filter_map as_isis ss)) a
    ∙ ap (λ v. configuration_by name v (filter_map as_ospf ss) (filter_map as_isis ss)) b
    ∙ ap (λ v. configuration_by name interfaces v (filter_map as_isis ss)) c
    ∙ ap (configuration_by name interfaces ospf) d
