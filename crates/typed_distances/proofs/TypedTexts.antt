-- Texts with the lines of changes put in read as the network of the state.
use Rattle.std.proofs.Common.{◌≡◌, ℕ, ◌+◌, true, false, Bool, cond, List, [], ◌∷◌, ◌++◌, map, Contains, AllPairs, All, refl, sym, ap, ◌∙◌, subst, inl, inr, arith}
use Rattle.std.specs.Prelude.{bytes_eq, IsSome, IsPermutation}
use Rattle.std.proofs.lemmas.List.{map-append}
use Rattle.std.proofs.lemmas.List.Elements.{Contains-append_cases}
use Rattle.std.proofs.lemmas.List.Sorted.{Contains-permutation, IsPermutation-map, IsPermutation-sym}
use Rattle.std.proofs.lemmas.Option.{slice_get_within, get_or_from_slice_get}
use Rattle.net_model.specs.Configuration.{Configuration}
use Rattle.net_model.specs.Network.{Network}
use Rattle.net_model.specs.Refusals.{IsBelow, IsNetworkOf, NamesAscend}
use Rattle.net_model.specs.declared.interface.Interface.{Interface}
use Rattle.net_model.proofs.Members.{Contains-rest}
use Rattle.net_model.proofs.Names.{IsBelow-irrefl}
use Rattle.design_file.proofs.NetworkLookups.{same_text, text_is}
use Rattle.igp_theory.specs.Phases.{State}
use Rattle.igp_theory.proofs.OrderedLists.{pairs_first, pairs_rest}
use Rattle.ios_lines.proofs.Picked.{pairs_map}
use Rattle.applied_changes.specs.AppliedTexts.{applied_text, in_phase}
use Rattle.applied_changes.specs.NamedPhases.{phase_from, phase_named}
use Rattle.applied_changes.proofs.AppliedFacts.{applied_text_reads}
use Rattle.isis_writer.specs.ReadTexts.{ReadsTexts}
use Rattle.typed_distances.specs.TypedDistances.{AreasHaveProcesses, network_from, network_in}
use Rattle.typed_distances.specs.TypedTexts.{TypedTextsForward}
use Rattle.typed_distances.proofs.PhasesByDistance.{bar_distances, distances_tell, phase_alike}
use Rattle.typed_distances.proofs.ReadProcesses.{read_areas}

-- ---- texts ----

-- all texts with lines put in read as all configurations in their phases
all_read : (phases : List ℕ → _) (texts : List (List ℕ)) (configs : List Configuration) → ReadsTexts texts configs →
    ReadsTexts (map (applied_text phases) texts) (map (λ (c : Configuration). in_phase (phases c.name) c) configs)
all_read phases [] configs none = ap (map (λ (c : Configuration). in_phase (phases c.name) c)) none
all_read phases (text ∷ texts) configs reads = record {
  one = map (λ (c : Configuration). in_phase (phases c.name) c) reads.one;
  others = map (λ (c : Configuration). in_phase (phases c.name) c) reads.others;
  reads = applied_text_reads phases text reads.one reads.reads;
  rest = all_read phases texts reads.others reads.rest;
  all =
      ap (map (λ (c : Configuration). in_phase (phases c.name) c)) reads.all
      ∙ map-append (λ (c : Configuration). in_phase (phases c.name) c) reads.one reads.others;
}

-- a router of some texts has a process where OSPF runs on an interface of it
read_process : (texts : List (List ℕ)) (configs : List Configuration) → ReadsTexts texts configs → (c : Configuration) → Contains configs c →
    (i : Interface) → Contains c.interfaces i → IsSome i.area → IsSome c.process
read_process [] configs none c among i inside runs = let empty : Contains [] c = subst (λ l. Contains l c) none among in absurd (omega (arith, empty.1))
read_process (text ∷ texts) configs reads c among i inside runs =
    elim (Contains-append_cases reads.one reads.others c (subst (λ l. Contains l c) reads.all among)) [
      | inl here ↦ read_areas text reads.one reads.reads c here i inside runs
      | inr later ↦ read_process texts reads.others reads.rest c later i inside runs
    ]

have_processes : (texts : List (List ℕ)) (configs : List Configuration) (net : Network) → ReadsTexts texts configs → IsPermutation configs net →
    AreasHaveProcesses net
have_processes texts configs net reads same u c i at inside runs =
    let among : Contains net c = (u, slice_get_within net u c at, get_or_from_slice_get net u c c at) in
    read_process texts configs reads c (Contains-permutation net configs c (IsPermutation-sym configs net same) among) i inside runs

-- ---- phases by name ----

-- routers behind the first one have other names
further : (v : ℕ) (state : State) (first : Configuration) (more rest : Network) →
    ((d : Configuration) → Contains rest d → IsBelow first.name d.name) →
    map (λ (d : Configuration). in_phase (phase_from v (first ∷ more) state d.name) d) rest
    ≡ map (λ (d : Configuration). in_phase (phase_from (v + 1) more state d.name) d) rest
further v state first more [] below = refl
further v state first more (d ∷ rest) below =
    let other : bytes_eq first.name d.name ≡ false = apart (bytes_eq first.name d.name) refl in
    ap (λ b. in_phase (cond b (state v) (phase_from (v + 1) more state d.name)) d
    ∷ map (λ (x : Configuration). in_phase (phase_from v (first ∷ more) state x.name) x) rest) other
    ∙ ap (λ l. in_phase (phase_from (v + 1) more state d.name) d ∷ l)
    (further v state first more rest (λ x among. below x (Contains-rest d rest x among)))
  where
    apart : (b : Bool) → bytes_eq first.name d.name ≡ b → b ≡ false
    apart false is = refl
    apart true is =
        let same : first.name ≡ d.name = same_text first.name d.name is in
        absurd (IsBelow-irrefl d.name (subst (λ n. IsBelow n d.name) same (below d (0, omega arith, refl))))

-- each router is in the phase of its name
phases_by_name : (v : ℕ) (state : State) (net : Network) → NamesAscend net →
    map (λ (c : Configuration). in_phase (phase_from v net state c.name) c) net ≡ network_from v state net
phases_by_name v state [] ascending = refl
phases_by_name v state (c ∷ net) ascending =
    let R : Configuration → Configuration → Type 0 = λ x y. IsBelow x.name y.name in
    ap (λ b. in_phase (cond b (state v) (phase_from (v + 1) net state c.name)) c
    ∷ map (λ (x : Configuration). in_phase (phase_from v (c ∷ net) state x.name) x) net) (text_is c.name c.name refl)
    ∙ ap (λ l. in_phase (state v) c ∷ l)
    (further v state c net net (λ d among. pairs_first R c net ascending d among) ∙ phases_by_name (v + 1) state net (pairs_rest R c net ascending))

-- the configurations in their phases are those of the network in the state
in_state : (configs : List Configuration) (net : Network) (state : State) → IsNetworkOf configs net →
    IsNetworkOf (map (λ (c : Configuration). in_phase (phase_named net state c.name) c) configs) (network_in state net)
in_state configs net state is =
    let moved : Configuration → Configuration = λ (c : Configuration). in_phase (phase_named net state c.name) c in
    let all : map moved net ≡ network_in state net = phases_by_name 0 state net is.ascending in record {
      same = subst (IsPermutation (map moved configs)) all (IsPermutation-map moved configs net is.same);
      ascending = subst NamesAscend all (pairs_map (λ (x y : Configuration). IsBelow x.name y.name) moved net (renamed is.ascending));
    }
  where
    name_kept : (c : Configuration) → (in_phase (phase_named net state c.name) c).name ≡ c.name
    name_kept c = ap (λ (x : Configuration). x.name) (phase_alike (phase_named net state c.name) c)

    renamed : NamesAscend net →
        AllPairs (λ (x y : Configuration). IsBelow (in_phase (phase_named net state x.name) x).name (in_phase (phase_named net state y.name) y).name) net
    renamed ascending i j d before within =
        let x : Configuration = Rattle.std.proofs.Common.get_or net i d in
        let y : Configuration = Rattle.std.proofs.Common.get_or net j d in
        subst (λ n. IsBelow n (in_phase (phase_named net state y.name) y).name) (sym (name_kept x))
        (subst (IsBelow x.name) (sym (name_kept y)) (ascending i j d before within))

pub texts_forward : TypedTextsForward
texts_forward texts configs net reads is start state = record {
  configs = map (λ (c : Configuration). in_phase (phase_named net state c.name) c) configs;
  reads = all_read (phase_named net state) texts configs reads;
  typed = network_in state net;
  makes = in_state configs net state is;
  alike = bar_distances state net;
  forwards = λ u p distance used.
      let same = distances_tell net (have_processes texts configs net reads is.same) start state u p distance used in (same.1, same.0);
}
