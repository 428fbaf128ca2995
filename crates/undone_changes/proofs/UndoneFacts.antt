-- Texts with the lines of changes and with those that undo the last of them read as the network of the state that is left.
use Rattle.std.proofs.Common.{◌≡◌, ◌≢◌, ◌⊎◌, inl, inr, ℕ, ◌+◌, ◌-◌, ◌<◌, zero, suc, ◌==◌, Bool, true, false, cond, List, [], ◌∷◌, ◌++◌, Some, length, get_or, map}
use Rattle.std.proofs.Common.{All, Contains, refl, sym, ap, ◌∙◌, subst, arith, drop, take, reverse}
use Rattle.std.specs.Prelude.{bytes_eq, filter, is_none, is_some, slice_get, None, Option}
use Rattle.std.specs.List.{flat_map}
use Rattle.std.proofs.lemmas.Bool.Decides.{eqb_tells}
use Rattle.std.proofs.lemmas.List.{get_or-reverse, length-reverse, map-append, take-append-drop}
use Rattle.std.proofs.lemmas.List.Elements.{Contains-append_left, Contains-append_right, Contains-get_or, filter-append, filter_passes}
use Rattle.std.proofs.lemmas.List.Sorted.{Contains-permutation}
use Rattle.std.proofs.lemmas.Option.{same_Some, slice_get-get_or, slice_get_within}
use Rattle.net_model.specs.Configuration.{AreDistances, Configuration}
use Rattle.net_model.specs.Network.{HasConfiguration, Network}
use Rattle.net_model.specs.OffStarts.{IsOffStart, StartsOff}
use Rattle.net_model.specs.Refusals.{IsBelow, IsNetworkOf, NamesAscend}
use Rattle.net_model.proofs.Members.{Contains-first, Contains-rest}
use Rattle.net_model.proofs.Names.{IsBelow-irrefl}
use Rattle.net_model.proofs.NetworkFacts.{IsNamed-unique}
use Rattle.design_file.proofs.NetworkLookups.{same_text, text_is}
use Rattle.igp_theory.specs.Changes.{Change, changed}
use Rattle.igp_theory.specs.Phases.{State}
use Rattle.igp_theory.specs.States.{changes_on, phase_after}
use Rattle.igp_theory.proofs.OrderedLists.{pairs_first, pairs_rest}
use Rattle.ios_sections.specs.Sections.{sections_in}
use Rattle.ios_sections.specs.TextLines.{Part}
use Rattle.ios_sections.specs.Processes.{as_hostname}
use Rattle.ios_sections.specs.declared.section.Section.{Section}
use Rattle.ios_lines.specs.FaultOrder.{faults_if}
use Rattle.ios_lines.specs.Lookups.{last_of}
use Rattle.ios_lines.specs.Words.{Word}
use Rattle.ios_lines.specs.declared.kind.ReadKind.TheVariants.{NoHostname}
use Rattle.ios_sections.proofs.GoodSections.{number_of_process, sections_good}
use Rattle.ios_reader.specs.Faults.{section_faults}
use Rattle.ios_reader.specs.Configurations.{configuration_of}
use Rattle.ios_reader.specs.Places.{raw_lines}
use Rattle.ios_reader.specs.Texts.{ReadsText}
use Rattle.ios_reader.proofs.GrownSections.{Grows}
use Rattle.ios_reader.proofs.KeptFacts.{configuration_kept}
use Rattle.ios_reader.proofs.LookedUp.{no_fault_from}
use Rattle.ios_reader.proofs.PutBlocks.{put_reads}
use Rattle.ios_reader.proofs.RawLines.{are_raw, raw_joined, whole_start}
use Rattle.isis_writer.specs.ReadTexts.{ReadsTexts}
use Rattle.printed_lines.specs.Texts.{text_of}
use Rattle.step_scripts.specs.Scripts.{by_configuration, change_lines, name_on}
use Rattle.state_replay.specs.Journals.{BeginRun}
use Rattle.state_replay.proofs.Fronts.{AreInFront, front_of_run}
use Rattle.live_replan.specs.BackTexts.{undo_lines}
use Rattle.applied_changes.specs.AppliedTexts.{in_phase}
use Rattle.applied_changes.specs.NamedPhases.{phase_from, phase_named}
use Rattle.applied_changes.proofs.AppliedFacts.{applied_text_reads}
use Rattle.typed_distances.specs.TypedTexts.{typed_texts}
use Rattle.typed_distances.proofs.TypedTexts.{texts_forward}
use Rattle.undone_changes.specs.UndoneTexts.{UndoneTextsForward, block_there_and_back, changes_at, state_kept, undone_text}
use Rattle.applied_changes.specs.Settings.{setting_lines, with_settings}
use Rattle.undone_changes.proofs.RouterChanges.{are_parted, counted_on, on}
use Rattle.applied_changes.proofs.GrownConfigurations.{all_grow}
use Rattle.undone_changes.proofs.Undoing.{all_allowed, leaves, lines_are, there_and_back}

-- ---- phases and changes by name ----

-- the phase of the name of a router is its own
phase_there : (v : ℕ) (state : State) (net : Network) (u : ℕ) (c : Configuration) → NamesAscend net → HasConfiguration net u c →
    phase_from v net state c.name ≡ state (v + u)
phase_there v state [] u c ascending at = absurd (Prim.cc at)
phase_there v state (d ∷ net) zero c ascending at =
    let same : d ≡ c = same_Some d c at in
    ap (λ (b : Bool). cond b (state v) (phase_from (v + 1) net state c.name)) (text_is d.name c.name (ap (λ (x : Configuration). x.name) same))
    ∙ ap state (let e : v ≡ v + 0 = omega arith in e)
phase_there v state (d ∷ net) (suc u) c ascending at =
    let R : Configuration → Configuration → Type 0 = λ x y. IsBelow x.name y.name in
    let among : Contains net c =
    let within : u < length net = slice_get_within net u c at in
    subst (Contains net) (same_Some (get_or net u c) c (sym (slice_get-get_or net u c within) ∙ at)) (Contains-get_or net u c within) in
    let below : IsBelow d.name c.name = pairs_first R d net ascending c among in
    ap (λ (b : Bool). cond b (state v) (phase_from (v + 1) net state c.name)) (apart below (bytes_eq d.name c.name) refl)
    ∙ phase_there (v + 1) state net u c (pairs_rest R d net ascending) at
    ∙ ap state (let e : v + 1 + u ≡ v + suc u = omega arith in e)
  where
    apart : IsBelow d.name c.name → (b : Bool) → bytes_eq d.name c.name ≡ b → b ≡ false
    apart below false is = refl
    apart below true is = absurd (IsBelow-irrefl c.name (subst (λ n. IsBelow n c.name) (same_text d.name c.name is) below))

module _ (net : Network) (ascending : NamesAscend net) (u : ℕ) (c : Configuration) (at : HasConfiguration net u c) where
  -- a change is made on the router of this name where it is made on router u
  name_test : (v : ℕ) → v < length net → bytes_eq (name_on net v) c.name ≡ (v == u)
  name_test v within =
      let d : Configuration = get_or net v c in
      let there : slice_get net v ≡ Some d = slice_get-get_or net v c within in
      ap (λ o. bytes_eq (by_configuration (λ (x : Configuration). x.name) o) c.name) there
      ∙ by_test d there (bytes_eq d.name c.name) refl
    where
      Told : Type 0
      Told = (((v == u) ≡ true) × (v ≡ u)) ⊎ (((v == u) ≡ false) × (v ≢ u))

      named : Told → v ≡ u → true ≡ (v == u)
      named (inl equal) same = sym equal.0
      named (inr other) same = absurd (other.1 same)

      unnamed : (d : Configuration) → slice_get net v ≡ Some d → bytes_eq d.name c.name ≡ false → Told → false ≡ (v == u)
      unnamed d there is (inl equal) =
          let same : d ≡ c = same_Some d c (sym there ∙ ap (slice_get net) equal.1 ∙ at) in
          absurd (let no : false ≡ true = sym is ∙ text_is d.name c.name (ap (λ (x : Configuration). x.name) same) in cc no)
      unnamed d there is (inr other) = sym other.0

      by_test : (d : Configuration) → slice_get net v ≡ Some d → (b : Bool) → bytes_eq d.name c.name ≡ b → b ≡ (v == u)
      by_test d there true is =
          named (eqb_tells v u)
          (IsNamed-unique net c.name v u ascending (record { config = d; router = there; name_is = same_text d.name c.name is })
          (record { config = c; router = at; name_is = refl }))
      by_test d there false is = unnamed d there is (eqb_tells v u)

  pub at_router : (changes : List Change) → ((d : Change) → Contains changes d → changed d < length net) →
      changes_at net c.name changes ≡ filter (on u) changes
  at_router [] below = refl
  at_router (d ∷ changes) below =
      ap (λ (b : Bool). cond b (d ∷ changes_at net c.name changes) (changes_at net c.name changes))
      (name_test (changed d) (below d (Contains-first d changes)))
      ∙ ap (λ l. cond (changed d == u) (d ∷ l) l) (at_router changes (λ e among. below e (Contains-rest d changes e among)))

-- ---- one configuration ----

-- a configuration of the network, at its start
pub record IsKnown (net : Network) (c : Configuration) : Type 0 where
  pub router : ℕ
  pub there : HasConfiguration net router c
  pub start : IsOffStart c → ⊥

all_passing : (u : ℕ) (xs : List Change) → All (λ d. on u d ≡ true) xs → All (λ d. on u d ≡ true) (reverse xs)
all_passing u xs all k d within =
    let inside : k < length xs = omega (arith, within, length-reverse xs) in
    subst (λ (e : Change). on u e ≡ true) (sym (get_or-reverse xs k d inside)) (all (length xs - 1 - k) d (omega (arith, inside)))

-- where no name is missing there is one
has_name : (name : Option Word) (ends : ℕ) → faults_if (is_none name) ends NoHostname ≡ [] → is_some name ≡ true
has_name None ends none = absurd (Prim.cc none)
has_name (Some name) ends none = refl

module _ (net : Network) (ranks : List ℕ) (changes : List Change) (kept : ℕ) (ascending : NamesAscend net)
    (begin : BeginRun (length net) ranks changes) where
  abbrev front : List Change
  front = take kept changes

  abbrev back : List Change
  back = drop kept changes

  in_front : AreInFront (length net) ranks changes
  in_front = front_of_run (length net) ranks changes begin

  whole : front ++ back ≡ changes
  whole = take-append-drop kept changes

  back_below : (d : Change) → Contains back d → changed d < length net
  back_below d among = in_front.below d (subst (λ (l : List Change). Contains l d) whole (Contains-append_right front back d among))

  abbrev moved : Configuration → Configuration
  moved c = in_phase (phase_named net (state_kept changes kept) c.name) c

  module _ (ss : List Section) (known : IsKnown net (configuration_of ss)) where
    abbrev c : Configuration
    c = configuration_of ss

    abbrev u : ℕ
    u = known.router

    ours_whole : filter (on u) front ++ filter (on u) back ≡ filter (on u) changes
    ours_whole = sym (filter-append (on u) front back) ∙ ap (filter (on u)) whole

    block_is : block_there_and_back net changes kept ss
        ≡ text_of (flat_map (setting_lines c) (there_and_back c (filter (on u) front ++ filter (on u) back) (filter (on u) back)))
    block_is =
        ap (λ (l : List Change). text_of (flat_map (change_lines net) l ++ flat_map (undo_lines net) (reverse (changes_at net c.name back))))
        (at_router net ascending u c known.there changes in_front.below)
        ∙ ap (λ (l : List Change). text_of (flat_map (change_lines net) (filter (on u) changes) ++ flat_map (undo_lines net) (reverse l)))
        (at_router net ascending u c known.there back back_below)
        ∙ ap text_of (lines_are net u c known.there (filter (on u) changes) (filter (on u) back) (filter_passes (on u) changes)
        (all_passing u (filter (on u) back) (filter_passes (on u) back)))
        ∙ ap (λ (l : List Change). text_of (flat_map (setting_lines c) (there_and_back c l (filter (on u) back)))) (sym ours_whole)

    leaves_phase : with_settings (there_and_back c (filter (on u) front ++ filter (on u) back) (filter (on u) back)) c ≡ moved c
    leaves_phase =
        leaves u c (filter (on u) front) (filter (on u) back) known.start
        (are_parted (length net) ranks front back changes u whole in_front)
        ∙ ap (λ (n : ℕ). in_phase (phase_after n) c)
        (sym (counted_on u front) ∙ (let e : changes_on u (map changed front) ≡ 0 + changes_on u (map changed front) = omega arith in e))
        ∙ ap (λ phase. in_phase phase c) (sym (phase_there 0 (state_kept changes kept) net u c ascending known.there
        ∙ ap (state_kept changes kept) (let e : 0 + u ≡ u = omega arith in e)))

  block_grows : (part : Part) (ends : ℕ) → section_faults (sections_in part) ends ≡ [] → IsKnown net (configuration_of (sections_in part)) →
      Grows (sections_in part) ends (block_there_and_back net changes kept (sections_in part)) (moved (configuration_of (sections_in part)))
  block_grows part ends fine known =
      let ss : List Section = sections_in part in
      let named : is_some (last_of as_hostname ss) ≡ true = has_name (last_of as_hostname ss) ends (no_fault_from ss ends fine).named in
      let are : AreDistances (configuration_of ss).distances = (configuration_kept ss (sections_good part) named).distances in
      let ours = filter (on known.router) front ++ filter (on known.router) back in
      let theirs = filter (on known.router) back in
      subst (λ (block : List ℕ). Grows ss ends block (moved (configuration_of ss))) (sym (block_is ss known))
      (subst (λ (g : Configuration). Grows ss ends (text_of (flat_map (setting_lines (configuration_of ss))
      (there_and_back (configuration_of ss) ours theirs))) g)
      (leaves_phase ss known)
      (all_grow (there_and_back (configuration_of ss) ours theirs) ss ends (all_allowed (configuration_of ss) are ours theirs) fine
      (number_of_process ss (sections_good part))))

  -- ---- texts ----

  one_reads : (text : List ℕ) (configs : List Configuration) → ((c : Configuration) → Contains configs c → IsKnown net c) → ReadsText text configs →
      ReadsText (undone_text net changes kept text) (map moved configs)
  one_reads text configs known reads =
      let all = put_reads (block_there_and_back net changes kept) moved (IsKnown net) block_grows (raw_lines text) [] configs
      (whole_start (raw_lines text)) (are_raw text) (λ k d l. known (get_or configs k d) (Contains-get_or configs k d l))
      (subst (λ t. ReadsText t configs) (sym (raw_joined text)) reads) in
      subst (λ l. ReadsText (undone_text net changes kept text) (map moved l)) (sym all.was) all.reads

  pub all_read : (texts : List (List ℕ)) (configs : List Configuration) → ((c : Configuration) → Contains configs c → IsKnown net c) →
      ReadsTexts texts configs → ReadsTexts (map (undone_text net changes kept) texts) (map moved configs)
  all_read [] configs known none = ap (map moved) none
  all_read (text ∷ texts) configs known reads =
      let known_of : (c : Configuration) → Contains (reads.one ++ reads.others) c → IsKnown net c =
      λ c among. known c (subst (λ (l : List Configuration). Contains l c) (sym reads.all) among) in
      record {
        one = map moved reads.one;
        others = map moved reads.others;
        reads = one_reads text reads.one (λ c among. known_of c (Contains-append_left reads.one reads.others c among)) reads.reads;
        rest = all_read texts reads.others (λ c among. known_of c (Contains-append_right reads.one reads.others c among)) reads.rest;
        all = ap (map moved) reads.all ∙ map-append moved reads.one reads.others;
      }

-- each configuration is one of the network
known_all : (configs : List Configuration) (net : Network) → IsNetworkOf configs net → ((u : ℕ) → StartsOff net u → ⊥) →
    (c : Configuration) → Contains configs c → IsKnown net c
known_all configs net is start c among =
    let there : Contains net c = Contains-permutation configs net c is.same among in
    let at : HasConfiguration net there.0 c = slice_get-get_or net there.0 c there.1 ∙ ap Some there.2 in
    record { router = there.0; there = at; start = λ off. start there.0 (record { config = c; router = at; off = off }) }

-- ---- the network of the state ----

-- the texts with the lines to the phases of a state read as the configurations in these
all_typed : (net : Network) (state : State) (texts : List (List ℕ)) (configs : List Configuration) → ReadsTexts texts configs →
    ReadsTexts (typed_texts net state texts) (map (λ (c : Configuration). in_phase (phase_named net state c.name) c) configs)
all_typed net state [] configs none = ap (map (λ (c : Configuration). in_phase (phase_named net state c.name) c)) none
all_typed net state (text ∷ texts) configs reads =
    let moved : Configuration → Configuration = λ (c : Configuration). in_phase (phase_named net state c.name) c in
    record {
      one = map moved reads.one;
      others = map moved reads.others;
      reads = applied_text_reads (phase_named net state) text reads.one reads.reads;
      rest = all_typed net state texts reads.others reads.rest;
      all = ap (map moved) reads.all ∙ map-append moved reads.one reads.others;
    }

-- texts read as configurations in one way
reads_once : (texts : List (List ℕ)) (one other : List Configuration) → ReadsTexts texts one → ReadsTexts texts other → one ≡ other
reads_once [] one other none also = none ∙ sym also
reads_once (text ∷ texts) one other first second =
    first.all ∙ ap (λ (l : List Configuration). l ++ first.others) (first.reads.made ∙ sym second.reads.made)
    ∙ ap (λ (l : List Configuration). second.one ++ l) (reads_once texts first.others second.others first.rest second.rest) ∙ sym second.all

pub undone_forward : UndoneTextsForward
undone_forward texts configs net ranks changes reads is start begin kept =
    let state : State = state_kept changes kept in
    let forward = texts_forward texts configs net reads is start state in
    let same : forward.configs ≡ map (λ (c : Configuration). in_phase (phase_named net state c.name) c) configs =
    reads_once (typed_texts net state texts) forward.configs _ forward.reads (all_typed net state texts configs reads) in
    record {
      configs = map (λ (c : Configuration). in_phase (phase_named net state c.name) c) configs;
      reads = all_read net ranks changes kept is.ascending begin texts configs (known_all configs net is start) reads;
      typed = forward.typed;
      makes = subst (λ (l : List Configuration). IsNetworkOf l forward.typed) same forward.makes;
      alike = forward.alike;
      forwards = forward.forwards;
    }
