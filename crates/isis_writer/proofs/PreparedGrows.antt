-- The lines that are written for the router of a configuration, by its name: none, or those of what is settled for it.
use Rattle.std.proofs.Common.{◌≡◌, ℕ, ◌+◌, zero, suc, Bool, true, false, cond, List, [], ◌∷◌, length, Option, Some, None, refl, sym}
use Rattle.std.proofs.Common.{subst, ◌∙◌, arith, bytes_eq}
use Rattle.std.specs.Prelude.{Contains, slice_get}
use Rattle.std.specs.List.{AllZip}
use Rattle.std.proofs.lemmas.Option.{same_Some, slice_get_read}
use Rattle.net_model.specs.Configuration.{Configuration}
use Rattle.net_model.specs.Lookups.{IsNamed}
use Rattle.net_model.specs.Network.{Network, HasConfiguration}
use Rattle.net_model.specs.Refusals.{NamesAscend}
use Rattle.net_model.proofs.NetworkFacts.{IsNamed-unique}
use Rattle.printed_lines.specs.Texts.{text_of}
use Rattle.ios_lines.specs.Words.{Word}
use Rattle.ios_sections.specs.TextLines.{Part}
use Rattle.ios_sections.specs.Sections.{sections_in}
use Rattle.ios_sections.specs.Processes.{interfaces_in}
use Rattle.ios_reader.specs.Faults.{section_faults}
use Rattle.ios_reader.specs.Configurations.{configuration_of}
use Rattle.ios_reader.proofs.GrownSections.{Grows, nothing_grows}
use Rattle.design_file.specs.Settling.{FitsNetwork, FitsRouter}
use Rattle.design_file.specs.declared.settled.SettledRouter.{SettledRouter}
use Rattle.isis_writer.specs.Prepared.{numbered_from, settled_lines, numbered_lines, new_lines}
use Rattle.isis_writer.specs.PreparedConfigurations.{configuration_with, configuration_numbered, prepared}
use Rattle.isis_writer.proofs.MoreSections.{same_name}
use Rattle.isis_writer.proofs.RouterGrows.{router_grows}

-- ---- the number of a router ----

-- a router of this name, so many further on
record NumberedAt (net : Network) (from : ℕ) (name : Word) (u : ℕ) : Type 0 where
  place : ℕ
  far : u ≡ from + place
  config : Configuration
  at : HasConfiguration net place config
  name_is : config.name ≡ name

numbered_at : (net : Network) (from : ℕ) (name : Word) (u : ℕ) → numbered_from from name net ≡ Some u → NumberedAt net from name u
numbered_at [] from name u e = absurd cc
numbered_at (d ∷ net) from name u e = by_name (bytes_eq d.name name) refl e (λ h. numbered_at net (from + 1) name u h)
  where
    by_name : (b : Bool) → bytes_eq d.name name ≡ b → cond b (Some from) (numbered_from (from + 1) name net) ≡ Some u →
        (numbered_from (from + 1) name net ≡ Some u → NumberedAt net (from + 1) name u) → NumberedAt (d ∷ net) from name u
    by_name true same e later =
        let here : from ≡ u = same_Some from u e in
        record { place = 0; far = omega (arith, here); config = d; at = refl; name_is = same_name d.name name same }
    by_name false off e later =
        let rest : NumberedAt net (from + 1) name u = later e in
        record { place = suc rest.place; far = let far = rest.far in omega (arith, far); config = rest.config; at = rest.at; name_is = rest.name_is }

contained_at : (net : Network) (c : Configuration) → Contains net c → (v : ℕ) × HasConfiguration net v c
contained_at net c among = (among.0, slice_get_read net (length net) among.0 c refl among.1 (sym among.2))

-- the first router of the name of a configuration of the network has this configuration
pub number_is : (net : Network) (c : Configuration) (u : ℕ) → NamesAscend net → Contains net c → numbered_from 0 c.name net ≡ Some u →
    HasConfiguration net u c
number_is net c u names among e =
    let found : NumberedAt net 0 c.name u = numbered_at net 0 c.name u e in
    let place : found.place ≡ u = let far = found.far in omega (arith, far) in
    let its = contained_at net c among in
    let one : IsNamed net c.name found.place = record { config = found.config; router = found.at; name_is = found.name_is } in
    let other : IsNamed net c.name its.0 = record { config = c; router = its.1; name_is = refl } in
    let same : its.0 ≡ found.place = IsNamed-unique net c.name its.0 found.place names other one in
    subst (λ v. HasConfiguration net v c) (same ∙ place) its.1

-- what is settled for a router fits its configuration
fits_at : (net : Network) (settled : List SettledRouter) (u : ℕ) (c : Configuration) (router : SettledRouter) → AllZip FitsRouter net settled →
    HasConfiguration net u c → slice_get settled u ≡ Some router → FitsRouter c router
fits_at [] settled u c router fits at is = absurd cc
fits_at (d ∷ net) [] u c router fits at is = absurd cc
fits_at (d ∷ net) (r ∷ settled) zero c router fits at is =
    subst (λ x. FitsRouter x router) (same_Some d c at) (subst (λ x. FitsRouter d x) (same_Some r router is) fits.0)
fits_at (d ∷ net) (r ∷ settled) (suc u) c router fits at is = fits_at net settled u c router fits.1 at is

-- ---- what is written ----

pub prepared_grows : (net : Network) (settled : List SettledRouter) → NamesAscend net → FitsNetwork net settled → (part : Part) (ends : ℕ) →
    section_faults (sections_in part) ends ≡ [] →
    Contains net (configuration_of (sections_in part)) →
    Grows (sections_in part) ends (text_of (new_lines net settled (sections_in part))) (prepared net settled (configuration_of (sections_in part)))
prepared_grows net settled names fits part ends fine among = by_number (numbered_from 0 (configuration_of (sections_in part)).name net) refl
  where
    by_settled : (u : ℕ) → HasConfiguration net u (configuration_of (sections_in part)) → (o : Option SettledRouter) → slice_get settled u ≡ o →
        Grows (sections_in part) ends (text_of (settled_lines (interfaces_in (sections_in part)) u o))
        (configuration_with u o (configuration_of (sections_in part)))
    by_settled u at None e = nothing_grows (sections_in part) ends fine
    by_settled u at (Some router) e = router_grows part ends u router fine (fits_at net settled u (configuration_of (sections_in part)) router fits at e)

    by_number : (o : Option ℕ) → numbered_from 0 (configuration_of (sections_in part)).name net ≡ o →
        Grows (sections_in part) ends (text_of (numbered_lines (interfaces_in (sections_in part)) settled o))
        (configuration_numbered settled o (configuration_of (sections_in part)))
    by_number None e = nothing_grows (sections_in part) ends fine
    by_number (Some u) e = by_settled u (number_is net (configuration_of (sections_in part)) u names among e) (slice_get settled u) refl
