-- A router that was read from a text has an OSPF process where an interface of it runs OSPF.
use Rattle.std.proofs.Common.{◌≡◌, ℕ, true, List, [], ◌∷◌, ◌++◌, Some, None, IsSome, Contains, refl, sym, ap, ◌∙◌, subst}
use Rattle.std.proofs.lemmas.Bool.{false≢true}
use Rattle.std.specs.Prelude.{Option, Result, Ok, Err, is_some, flat_map, filter_map}
use Rattle.net_model.specs.Configuration.{Configuration}
use Rattle.net_model.specs.declared.interface.Interface.{Interface}
use Rattle.net_model.proofs.Members.{IsGivenBy, Contains-map}
use Rattle.ios_lines.specs.InterfaceLines.{counting}
use Rattle.ios_lines.specs.declared.address.InterfaceAddress.{InterfaceAddress}
use Rattle.ios_lines.specs.declared.interface_line.ProcessArea.{ProcessArea}
use Rattle.ios_lines.specs.declared.kind.ReadKind.{ReadKind}
use Rattle.ios_sections.specs.Processes.{as_ospf, process_of, lines_of_process}
use Rattle.ios_sections.specs.Sections.{sections_in}
use Rattle.ios_sections.specs.TextLines.{lines_in, parts_of}
use Rattle.ios_sections.specs.declared.section.InterfaceSection.{InterfaceSection}
use Rattle.ios_sections.specs.declared.section.OspfSection.{OspfSection}
use Rattle.ios_sections.specs.declared.section.Section.{Section}
use Rattle.ios_reader.specs.Configurations.{configuration_of}
use Rattle.ios_reader.specs.InterfaceFacts.{facts_of}
use Rattle.ios_reader.specs.InterfacesAsRead.{address_given, area_by, area_with, interface_as_read, network_area}
use Rattle.ios_reader.specs.Routers.{Router, router_of}
use Rattle.ios_reader.specs.declared.facts.InterfaceFacts.{InterfaceFacts}
use Rattle.typed_distances.specs.TypedDistances.{ReadAreasHaveProcesses}

-- without a process no line is one of the process
no_lines : (process : Option ℕ) → process ≡ None → (all : List OspfSection) → flat_map (lines_of_process process) all ≡ []
no_lines process none [] = refl
no_lines process none (section ∷ all) =
    ap (λ p. lines_of_process p section ++ flat_map (lines_of_process process) all) none ∙ no_lines process none all

-- then no interface is in an area
no_area : (router : Router) → router.process ≡ None → router.ospf ≡ [] → (facts : InterfaceFacts) (given : Option InterfaceAddress) →
    area_with router facts given ≡ None
no_area router none no_lines facts None = refl
no_area router none no_lines facts (Some given) =
    ap (λ p. area_by p facts.area (network_area router.ospf given.address)) none
    ∙ ap (λ l. area_by None facts.area (network_area l given.address)) no_lines
    ∙ by facts.area
  where
    by : (own : Option (Result ProcessArea ReadKind)) → area_by None own None ≡ None
    by None = refl
    by (Some (Ok said)) = refl
    by (Some (Err kind)) = refl

read_area : (sections : List Section) → process_of sections ≡ None → (section : InterfaceSection) →
    (interface_as_read (router_of sections) section).area ≡ None
read_area sections none section =
    no_area (router_of sections) none (no_lines (process_of sections) none (filter_map as_ospf sections))
    (facts_of (counting section.lines)) (address_given (facts_of (counting section.lines)).address)

by_process : (sections : List Section) (process : Option ℕ) → process_of sections ≡ process → (i : Interface) →
    Contains (configuration_of sections).interfaces i → IsSome i.area → is_some process ≡ true
by_process sections (Some process) is i among runs = refl
by_process sections None is i among runs =
    let its : IsGivenBy (interface_as_read (router_of sections)) _ i = Contains-map (interface_as_read (router_of sections)) _ i among in
    let none : i.area ≡ None = sym (ap (λ (x : Interface). x.area) its.gives) ∙ read_area sections is its.item in
    absurd (false≢true (subst IsSome none runs))

pub read_areas : ReadAreasHaveProcesses
read_areas text configurations reads c among i inside runs =
    let its : IsGivenBy (λ part. configuration_of (sections_in part)) (parts_of (lines_in text)) c =
    Contains-map (λ part. configuration_of (sections_in part)) (parts_of (lines_in text)) c (subst (λ l. Contains l c) reads.made among) in
    let sections : List Section = sections_in its.item in
    let inside_its : Contains (configuration_of sections).interfaces i = subst (λ (x : Configuration). Contains x.interfaces i) (sym its.gives) inside in
    ap (λ (x : Configuration). is_some x.process) (sym its.gives) ∙ by_process sections (process_of sections) refl i inside_its runs
