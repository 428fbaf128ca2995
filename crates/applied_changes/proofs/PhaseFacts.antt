-- The phase of a router by its name and by the changes made on it, and the lines that lead there.
use Rattle.std.proofs.lemmas.Grind.{common_steps}
use Rattle.std.proofs.Common.{◌≡◌, ◌<◌, ◌+◌, ◌-◌, ℕ, zero, suc, ◌==◌, Bool, true, false, cond, List, [], ◌∷◌, ◌++◌, length}
use Rattle.std.proofs.Common.{get_or, take, drop, sym, ap, ◌∙◌, arith}
use Rattle.std.specs.Prelude.{filter_map, bytes_eq, Option, unwrap_or}
use Rattle.std.proofs.lemmas.List.{drop_more}
use Rattle.std.proofs.lemmas.Option.{slice_get_within, get_or_from_slice_get}
use Rattle.std.proofs.lemmas.List.Concat.{flat_map-append}
use Rattle.net_model.specs.Configuration.{Configuration}
use Rattle.net_model.specs.Network.{Network, HasConfiguration}
use Rattle.printed_lines.specs.Texts.{text_of}
use Rattle.igp_theory.specs.Phases.{State}
use Rattle.igp_theory.specs.States.{changes_of, changes_on, phase_after}
use Rattle.igp_theory.specs.declared.phase.Phase.{Phase}
use Rattle.igp_theory.specs.declared.phase.Phase.TheVariants.{New}
use Rattle.ios_lines.specs.Lookups.{last_of}
use Rattle.ios_sections.specs.Processes.{as_hostname, as_isis, first_tag, process_of}
use Rattle.ios_sections.specs.declared.section.Section.{Section}
use Rattle.ios_reader.specs.Configurations.{configuration_of}
use Rattle.applied_changes.specs.AppliedTexts.{lines_to, block_for}
use Rattle.applied_changes.specs.NamedPhases.{phase_from}
use Rattle.applied_changes.specs.steps.PhaseLines.{phase_lines}

-- ---- the phase ----

pub after_more : (made : ℕ) → 1 < made → phase_after made ≡ New
after_more made more = grind arith

none_shared : (t : Bool) (m : ℕ) → m ≡ 0 → cond t m 0 ≡ 0
none_shared t m e = grind (arith, common_steps)

both_shared : (t : Bool) (m : ℕ) → m ≡ 2 → cond t m 0 ≡ cond t 1 0 + cond t 1 0
both_shared t m e = grind (arith, common_steps)

-- the changes of the next router, and then those of the others
pub made_further : (u v k : ℕ) (order : List ℕ) →
    cond (u == v) (k - (k - 2)) 0 + changes_on u (take (k - 2) (changes_of order)) ≡ changes_on u (take k (changes_of (v ∷ order)))
made_further u v zero order =
    let left : 0 - 2 ≡ 0 = omega arith in
    let none : cond (u == v) (0 - (0 - 2)) 0 ≡ 0 = none_shared (u == v) (0 - (0 - 2)) (omega arith) in
    let rest : changes_on u (take (0 - 2) (changes_of order)) ≡ 0 = ap (λ n. changes_on u (take n (changes_of order))) left in
    omega (arith, none, rest)
made_further u v (suc zero) order =
    let left : 1 - 2 ≡ 0 = omega arith in
    let one : cond (u == v) (1 - (1 - 2)) 0 ≡ cond (u == v) 1 0 = ap (λ m. cond (u == v) m 0) (let e : 1 - (1 - 2) ≡ 1 = omega arith in e) in
    let rest : changes_on u (take (1 - 2) (changes_of order)) ≡ 0 = ap (λ n. changes_on u (take n (changes_of order))) left in
    omega (arith, one, rest)
made_further u v (suc (suc k)) order =
    let left : suc (suc k) - 2 ≡ k = omega arith in
    let both : cond (u == v) (suc (suc k) - (suc (suc k) - 2)) 0 ≡ cond (u == v) 1 0 + cond (u == v) 1 0 =
    both_shared (u == v) (suc (suc k) - (suc (suc k) - 2)) (omega arith) in
    let rest : changes_on u (take (suc (suc k) - 2) (changes_of order)) ≡ changes_on u (take k (changes_of order)) =
    ap (λ n. changes_on u (take n (changes_of order))) left in
    omega (arith, both, rest)

-- one more router of an order
pub made_more : (u k i : ℕ) (order : List ℕ) → i < length order →
    cond (u == get_or order i 0) (k - (k - 2)) 0 + changes_on u (take (k - 2) (changes_of (drop (i + 1) order))) ≡ changes_on u
    (take k (changes_of (drop i order)))
made_more u k i order within = grind (arith, common_steps, drop_more, made_further)

drop_get : (net : Network) (u : ℕ) (config : Configuration) → HasConfiguration net u config → drop u net ≡ config ∷ drop (u + 1) net
drop_get net u config at =
    drop_more net u config (slice_get_within net u config at) ∙ ap (λ c. c ∷ drop (u + 1) net) (get_or_from_slice_get net u config config at)

-- one more router of a network
pub phase_here : (net : Network) (state : State) (name : List ℕ) (u : ℕ) (config : Configuration) → HasConfiguration net u config →
    phase_from u (drop u net) state name ≡ phase_from 0 net state name →
    bytes_eq config.name name ≡ true → state u ≡ phase_from 0 net state name
phase_here net state name u config at before same = grind (arith, common_steps, drop_get)

pub phase_further : (net : Network) (state : State) (name : List ℕ) (u : ℕ) (config : Configuration) → HasConfiguration net u config →
    phase_from u (drop u net) state name ≡ phase_from 0 net state name →
    bytes_eq config.name name ≡ false → phase_from (u + 1) (drop (u + 1) net) state name ≡ phase_from 0 net state name
phase_further net state name u config at before other =
    sym (ap (λ b. cond b (state u) (phase_from (u + 1) (drop (u + 1) net) state name)) other)
    ∙ sym (ap (λ l. phase_from u l state name) (drop_get net u config at)) ∙ before

-- ---- the lines ----

pub lines_joined : (one two : List (List ℕ)) → text_of one ++ text_of two ≡ text_of (one ++ two)
lines_joined one two = sym (flat_map-append (λ (line : List ℕ). line ++ 10 ∷ []) one two)

-- the lines by what the sections of a configuration say are those of the configuration
pub lines_of_sections : (phase : Phase) (sections : List Section) →
    phase_lines phase (first_tag (filter_map as_isis sections)) (process_of sections) ≡ lines_to phase (configuration_of sections)
lines_of_sections phase sections = grind arith

-- the same, where they are known by what they are
pub block_made : (phases : List ℕ → Phase) (sections : List Section) (name tag : Option (List ℕ)) (process : Option ℕ)
    (phase : Phase) (block : List ℕ) →
    name ≡ last_of as_hostname sections → tag ≡ first_tag (filter_map as_isis sections) → process ≡ process_of sections →
    phase ≡ phases (unwrap_or name []) → block ≡ text_of (phase_lines phase tag process) → block ≡ block_for phases (configuration_of sections)
block_made phases sections name tag process phase block names tags processes reached made =
    grind (arith, common_steps, lines_of_sections)
