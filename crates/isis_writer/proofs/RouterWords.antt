-- The lines that are written for a router, by their words, and what they say.
use Rattle.std.proofs.lemmas.Grind.{common_steps}
use Rattle.std.proofs.Common.{◌≡◌, ℕ, ◌<◌, ◌≤◌, ◌^◌, Bool, true, false, not, ◌&&◌, cond, List, [], ◌∷◌, ◌++◌, length, map}
use Rattle.std.proofs.Common.{Option, Some, None}
use Rattle.std.proofs.Common.{Ok, refl, ap, ◌∙◌, arith, codes, bytes_eq, nat_eq, nat_le, nat_lt, decimal}
use Rattle.std.specs.List.{list_all, flat_map}
use Rattle.std.proofs.lemmas.Bool.{and_parts, and_from, le-leb, not-true}
use Rattle.std.proofs.lemmas.Bool.Decides.{nat_tests}
use Rattle.std.proofs.lemmas.List.{map-append}
use Rattle.std.proofs.lemmas.List.Folds.{list_all-append}
use Rattle.net_model.specs.declared.bounds.TheConstants.{MOST_DISTANCE, MOST_METRIC}
use Rattle.net_model.specs.declared.config.Levels.{Levels}
use Rattle.net_model.specs.declared.config.Levels.TheVariants.{Both}
use Rattle.printed_lines.specs.Words.{spaced, joined}
use Rattle.printed_lines.proofs.NumberFacts.{numbers_read_back}
use Rattle.ios_lines.specs.Words.{Word, is_printable, levels_of, number_from}
use Rattle.ios_lines.specs.Heads.{head_of, is_interface_name}
use Rattle.ios_lines.specs.InterfaceLines.{interface_line}
use Rattle.ios_lines.specs.IsisLines.{isis_line}
use Rattle.ios_lines.specs.declared.kind.ReadKind.TheVariants.{BadMetric, Unsupported}
use Rattle.ios_lines.specs.declared.head.Head.TheVariants.{Interface as InterfaceHead}
use Rattle.ios_lines.specs.declared.interface_line.InterfaceLine.{InterfaceLine}
use Rattle.ios_lines.specs.declared.interface_line.InterfaceLine.TheVariants.{Isis, Circuit, Metric, Metric1, Metric2}
use Rattle.ios_lines.specs.declared.isis_line.IsisLine.{IsisLine}
use Rattle.ios_lines.specs.declared.isis_line.IsisLine.TheVariants.{Net, Levels as LevelsLine, MetricStyle, Distance, Passive, Leak, Skipped, Faulty}
use Rattle.ios_lines.proofs.NumberFacts.{number-some}
use Rattle.design_file.specs.Designs.{IsMetric}
use Rattle.design_file.specs.Values.{is_area}
use Rattle.design_file.specs.declared.settled.SettledInterface.{SettledInterface}
use Rattle.design_file.specs.declared.settled.SettledRouter.{SettledRouter}
use Rattle.isis_writer.specs.PreparedConfigurations.{system_id}
use Rattle.isis_writer.specs.RouterLines.{level_word, title, leak_lines, passive_lines, process_lines, run_lines, level_lines}
use Rattle.isis_writer.specs.RouterLines.{level_metric_lines, interface_lines}
use Rattle.isis_writer.proofs.TitleWords.{router_title, title_fine}
use Rattle.printed_sections.specs.PrintedSections.{is_fine, is_fine_line}
use Rattle.printed_sections.proofs.SectionFacts.{number_fine}

-- ---- words ----

levels_read : (levels : Levels) → levels_of (level_word levels) ≡ Ok levels
levels_read levels = grind arith

-- an interface's name is a word
some_name : (n : ℕ) → nat_le 1 n ≡ true → nat_lt 0 n ≡ true
some_name n some = grind (arith, nat_tests)

name_there : (n : ℕ) → nat_le 1 n ≡ true → nat_eq n 0 ≡ false
name_there n some = grind (arith, nat_tests)

-- what the name of an interface has
pub record NameWord (name : Word) : Type 0 where
  pub fine : is_fine name ≡ true
  pub there : nat_eq (length name) 0 ≡ false
  pub no_default : bytes_eq name (codes "default") ≡ false

pub name_word : (name : Word) → is_interface_name name ≡ true → NameWord name
name_word name is =
    let some : Bool = nat_le 1 (length name) in
    let other : Bool = not (bytes_eq name (codes "default")) in
    let last : ((some && other) ≡ true) × (list_all is_printable name ≡ true) = and_parts (some && other) (list_all is_printable name) is in
    let two : (some ≡ true) × (other ≡ true) = and_parts some other last.0 in
    record {
      fine = and_from (nat_lt 0 (length name)) (list_all is_printable name) (some_name (length name) two.0) last.1;
      there = name_there (length name) two.0;
      no_default = not-true (bytes_eq name (codes "default")) two.1;
    }

-- ---- the lines of an interface ----

abbrev run_words : Bool → List (List Word)
run_words passive = cond passive [] ((codes "ip" ∷ codes "router" ∷ codes "isis" ∷ []) ∷ [])

abbrev circuit_words : Levels → List Word
circuit_words levels = codes "isis" ∷ codes "circuit-type" ∷ level_word levels ∷ []

abbrev level_words : Bool → Option Levels → List (List Word)
level_words old (Some levels) = circuit_words levels ∷ []
level_words old None = cond old (circuit_words Both ∷ []) []

abbrev circuit_bodies : Bool → Bool → Option Levels → List (List Word)
circuit_bodies old passive circuit = cond passive [] (level_words old circuit)

abbrev metric_words : ℕ → List Word → List Word
metric_words metric level = codes "isis" ∷ codes "metric" ∷ decimal metric ∷ level

abbrev level_metric_words : Bool → ℕ → List (List Word)
level_metric_words old metric = cond old (metric_words metric (codes "level-1" ∷ []) ∷ metric_words metric (codes "level-2" ∷ []) ∷ []) []

-- the lines of the section of an interface, where an old line stands or not
abbrev pub interface_bodies : Bool → Bool → Option Levels → ℕ → List (List Word)
interface_bodies old passive circuit metric =
    run_words passive ++ (circuit_bodies old passive circuit ++ metric_words metric [] ∷ level_metric_words old metric)

abbrev pub interface_head : Word → List Word
interface_head name = codes "interface" ∷ name ∷ []

runs_spaced : (passive : Bool) → map spaced (run_words passive) ≡ run_lines passive
runs_spaced passive = grind (arith, common_steps)

levels_spaced : (old : Bool) (circuit : Option Levels) → map spaced (level_words old circuit) ≡ level_lines old circuit
levels_spaced old circuit = grind arith

circuits_spaced : (old passive : Bool) (circuit : Option Levels) → map spaced (circuit_bodies old passive circuit) ≡ cond passive []
    (level_lines old circuit)
circuits_spaced old passive circuit = grind (arith, common_steps, levels_spaced)

metrics_spaced : (old : Bool) (metric : ℕ) → map spaced (level_metric_words old metric) ≡ level_metric_lines old metric
metrics_spaced old metric = grind (arith, common_steps)

pub interface_written : (old : Bool) (i : SettledInterface) → interface_lines old i ≡ joined (interface_head i.name) ∷ map spaced
    (interface_bodies old i.passive i.circuit i.metric)
interface_written old i = grind (arith, common_steps, circuits_spaced, map-append, metrics_spaced, runs_spaced)

-- what they say
abbrev run_says : Bool → List InterfaceLine
run_says passive = cond passive [] (Isis [] ∷ [])

abbrev level_says : Bool → Option Levels → List InterfaceLine
level_says old (Some levels) = Circuit (Ok levels) ∷ []
level_says old None = cond old (Circuit (Ok Both) ∷ []) []

abbrev circuit_says : Bool → Bool → Option Levels → List InterfaceLine
circuit_says old passive circuit = cond passive [] (level_says old circuit)

abbrev level_metric_says : Bool → ℕ → List InterfaceLine
level_metric_says old metric = cond old (Metric1 (Ok metric) ∷ Metric2 (Ok metric) ∷ []) []

abbrev pub interface_says : Bool → Bool → Option Levels → ℕ → List InterfaceLine
interface_says old passive circuit metric = run_says passive ++ (circuit_says old passive circuit ++ Metric (Ok metric) ∷ level_metric_says old metric)

metric_small : (metric : ℕ) → IsMetric metric → metric < 2 ^ 64
metric_small metric is = let high : metric ≤ 16777214 = is.1 in omega (arith, high)

metric_read : (metric : ℕ) → IsMetric metric → number_from 1 MOST_METRIC BadMetric (decimal metric) ≡ Ok metric
metric_read metric is = grind (arith, common_steps, le-leb, metric_small, number-some, numbers_read_back)

runs_read : (passive : Bool) → map interface_line (run_words passive) ≡ run_says passive
runs_read passive = grind (arith, common_steps)

level_lines_read : (old : Bool) (circuit : Option Levels) → map interface_line (level_words old circuit) ≡ level_says old circuit
level_lines_read old circuit = grind arith

circuits_read : (old passive : Bool) (circuit : Option Levels) → map interface_line (circuit_bodies old passive circuit) ≡ circuit_says old passive circuit
circuits_read old passive circuit = grind (arith, common_steps, level_lines_read)

one_metric : (metric : ℕ) → IsMetric metric → interface_line (metric_words metric []) ≡ Metric (Ok metric)
one_metric metric is = ap (λ r. Metric r) (metric_read metric is)

metrics_read : (old : Bool) (metric : ℕ) → IsMetric metric → map interface_line (level_metric_words old metric) ≡ level_metric_says old metric
metrics_read old metric is = grind (arith, common_steps, metric_read)

pub interface_read : (old passive : Bool) (circuit : Option Levels) (metric : ℕ) → IsMetric metric →
    map interface_line (interface_bodies old passive circuit metric) ≡ interface_says old passive circuit metric
interface_read old passive circuit metric is =
    grind (arith, common_steps, circuits_read, map-append, metrics_read, one_metric, runs_read)

-- they are lines of a section
runs_fine : (passive : Bool) → list_all is_fine_line (run_words passive) ≡ true
runs_fine passive = grind (arith, common_steps)

level_bodies_fine : (old : Bool) (circuit : Option Levels) → list_all is_fine_line (level_words old circuit) ≡ true
level_bodies_fine old circuit = grind arith

circuits_fine : (old passive : Bool) (circuit : Option Levels) → list_all is_fine_line (circuit_bodies old passive circuit) ≡ true
circuits_fine old passive circuit = grind (arith, common_steps, level_bodies_fine)

metrics_fine : (old : Bool) (metric : ℕ) → is_fine (decimal metric) ≡ true → list_all is_fine_line (level_metric_words old metric) ≡ true
metrics_fine old metric fine = grind (arith, common_steps, fine)

one_metric_fine : (metric : ℕ) → is_fine (decimal metric) ≡ true → is_fine_line (metric_words metric []) ≡ true
one_metric_fine metric fine = ap (λ (b : Bool). (b && true) && true && true && true) fine

both_fine : (xs ys : List (List Word)) → list_all is_fine_line xs ≡ true → list_all is_fine_line ys ≡ true →
    list_all is_fine_line (xs ++ ys) ≡ true
both_fine xs ys one two = list_all-append is_fine_line xs ys ∙ and_from (list_all is_fine_line xs) (list_all is_fine_line ys) one two

pub interface_bodies_fine : (old passive : Bool) (circuit : Option Levels) (metric : ℕ) → IsMetric metric →
    list_all is_fine_line (interface_bodies old passive circuit metric) ≡ true
interface_bodies_fine old passive circuit metric is =
    grind (arith, common_steps, and_from, both_fine, circuits_fine, metric_small, metrics_fine, number_fine, one_metric_fine, runs_fine)

pub interface_head_fine : (name : Word) → is_interface_name name ≡ true → is_fine_line (interface_head name) ≡ true
interface_head_fine name is = ap (λ (b : Bool). (b && true) && true && true && true) (name_word name is).fine

-- a name reads as it is written, whether it has a digit or not
head_by : (t : Bool) (name : Word) → cond t name (name ++ []) ≡ name
head_by t name = grind (arith, common_steps)

pub interface_head_reads : (name : Word) → is_interface_name name ≡ true → head_of (interface_head name) ≡ InterfaceHead (Ok name)
interface_head_reads name is = grind (arith, common_steps, head_by)

-- ---- the lines of the process ----

abbrev leak_words : Bool → List (List Word)
leak_words leak = cond leak ((codes "redistribute" ∷ codes "isis" ∷ codes "ip" ∷ codes "level-2" ∷ codes "into" ∷ codes "level-1" ∷ []) ∷ []) []

abbrev passive_words : SettledInterface → List (List Word)
passive_words i = cond i.passive ((codes "passive-interface" ∷ i.name ∷ []) ∷ []) []

abbrev later_words : SettledRouter → List (List Word)
later_words router = leak_words router.leak ++ flat_map passive_words router.interfaces

abbrev title_words : Word → ℕ → List Word
title_words area number = codes "net" ∷ title area number ∷ []

abbrev type_words : Levels → List Word
type_words levels = codes "is-type" ∷ level_word levels ∷ []

abbrev style_words : List Word
style_words = codes "metric-style" ∷ codes "wide" ∷ []

abbrev distance_words : List Word
distance_words = codes "distance" ∷ decimal MOST_DISTANCE ∷ []

abbrev pub first_bodies : ℕ → SettledRouter → List (List Word)
first_bodies number router = type_words router.levels ∷ style_words ∷ distance_words ∷ later_words router

abbrev pub process_bodies : ℕ → SettledRouter → List (List Word)
process_bodies number router = title_words router.area number ∷ first_bodies number router

abbrev pub process_head_words : List Word
process_head_words = codes "router" ∷ codes "isis" ∷ []

leaks_spaced : (leak : Bool) → map spaced (leak_words leak) ≡ leak_lines leak
leaks_spaced leak = grind (arith, common_steps)

one_passive_spaced : (i : SettledInterface) → map spaced (passive_words i) ≡ passive_lines i
one_passive_spaced i = by_passive i.passive
  where
    by_passive : (t : Bool) → map spaced (cond t ((codes "passive-interface" ∷ i.name ∷ []) ∷ []) []) ≡ cond t
        (spaced (codes "passive-interface" ∷ i.name ∷ []) ∷ []) []
    by_passive true = refl
    by_passive false = refl

passives_spaced : (is : List SettledInterface) → map spaced (flat_map passive_words is) ≡ flat_map passive_lines is
passives_spaced [] = refl
passives_spaced (i ∷ is) =
    map-append spaced (passive_words i) (flat_map passive_words is)
    ∙ ap (λ (l : List (List ℕ)). l ++ map spaced (flat_map passive_words is)) (one_passive_spaced i)
    ∙ ap (λ (l : List (List ℕ)). passive_lines i ++ l) (passives_spaced is)

later_spaced : (router : SettledRouter) → map spaced (later_words router) ≡ leak_lines router.leak ++ flat_map passive_lines router.interfaces
later_spaced router = grind (arith, common_steps, leaks_spaced, map-append, passives_spaced)

pub process_written : (number : ℕ) (router : SettledRouter) → process_lines number router ≡ joined process_head_words ∷ map spaced
    (process_bodies number router)
process_written number router = grind (arith, common_steps, later_spaced)

-- what they say
abbrev pub leak_says : Bool → List IsisLine
leak_says leak = cond leak (Leak ∷ []) []

abbrev pub passive_says : SettledInterface → List IsisLine
passive_says i = cond i.passive (Passive (record { name = i.name; passive = true }) ∷ []) []

abbrev pub later_says : SettledRouter → List IsisLine
later_says router = leak_says router.leak ++ flat_map passive_says router.interfaces

abbrev pub process_says : ℕ → SettledRouter → List IsisLine
process_says number router =
    Net (Some (record { area = router.area; system = system_id number })) ∷ LevelsLine (Ok router.levels) ∷ MetricStyle true ∷ Distance
    (Ok MOST_DISTANCE) ∷ later_says router

leaks_read : (leak : Bool) → map isis_line (leak_words leak) ≡ leak_says leak
leaks_read leak = grind (arith, common_steps)

-- each of these has the name of an interface
abbrev pub AreNamed : List SettledInterface → Type 0
AreNamed [] = Unit {0}
AreNamed (i ∷ is) = (is_interface_name i.name ≡ true) × AreNamed is

one_passive_read : (i : SettledInterface) → is_interface_name i.name ≡ true → map isis_line (passive_words i) ≡ passive_says i
one_passive_read i is = by_passive i.passive
  where
    named : isis_line (codes "passive-interface" ∷ i.name ∷ []) ≡ Passive (record { name = i.name; passive = true })
    named =
        ap (λ (b : Bool). cond b Skipped
        (cond (bytes_eq i.name (codes "default")) (Faulty Unsupported) (Passive (record { name = i.name; passive = true })))) (name_word i.name is).there
        ∙ ap (λ (b : Bool). cond b (Faulty Unsupported) (Passive (record { name = i.name; passive = true }))) (name_word i.name is).no_default

    by_passive : (t : Bool) → map isis_line (cond t ((codes "passive-interface" ∷ i.name ∷ []) ∷ []) []) ≡ cond t
        (Passive (record { name = i.name; passive = true }) ∷ []) []
    by_passive true = ap (λ (l : IsisLine). l ∷ []) named
    by_passive false = refl

passives_read : (is : List SettledInterface) → AreNamed is → map isis_line (flat_map passive_words is) ≡ flat_map passive_says is
passives_read [] named = refl
passives_read (i ∷ is) named =
    map-append isis_line (passive_words i) (flat_map passive_words is)
    ∙ ap (λ (l : List IsisLine). l ++ map isis_line (flat_map passive_words is)) (one_passive_read i named.0)
    ∙ ap (λ (l : List IsisLine). passive_says i ++ l) (passives_read is named.1)

distance_read : isis_line distance_words ≡ Distance (Ok MOST_DISTANCE)
distance_read = grind (arith, common_steps, number-some, numbers_read_back)

pub process_read : (number : ℕ) (router : SettledRouter) → is_area router.area ≡ true → AreNamed router.interfaces →
    map isis_line (process_bodies number router) ≡ process_says number router
process_read number router area named =
    grind (arith, common_steps, distance_read, leaks_read, levels_read, map-append, passives_read, router_title)

-- they are lines of a section
leaks_fine : (leak : Bool) → list_all is_fine_line (leak_words leak) ≡ true
leaks_fine leak = grind (arith, common_steps)

passives_fine : (is : List SettledInterface) → AreNamed is → list_all is_fine_line (flat_map passive_words is) ≡ true
passives_fine [] named = refl
passives_fine (i ∷ is) named = both_fine (passive_words i) (flat_map passive_words is) (by_passive i.passive) (passives_fine is named.1)
  where
    by_passive : (t : Bool) → list_all is_fine_line (cond t ((codes "passive-interface" ∷ i.name ∷ []) ∷ []) []) ≡ true
    by_passive true = ap (λ (b : Bool). ((b && true) && true && true && true) && true) (name_word i.name named.0).fine
    by_passive false = refl

type_fine : (levels : Levels) → is_fine_line (type_words levels) ≡ true
type_fine levels = grind arith

pub process_bodies_fine : (number : ℕ) (router : SettledRouter) → is_area router.area ≡ true → AreNamed router.interfaces →
    list_all is_fine_line (process_bodies number router) ≡ true
process_bodies_fine number router area named =
    grind (arith, common_steps, and_from, both_fine, leaks_fine, number_fine, passives_fine, title_fine, type_fine)
