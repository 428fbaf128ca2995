-- What an interface says in the end, with the lines that are written for it behind its own.
use Rattle.std.proofs.lemmas.Grind.{common_steps}
use Rattle.std.proofs.Common.{◌≡◌, ℕ, ◌+◌, Bool, true, false, cond, List, [], ◌∷◌, ◌++◌, Option, Some, None, Result, Ok, refl, sym}
use Rattle.std.proofs.Common.{ap, ◌∙◌, arith}
use Rattle.std.specs.Prelude.{filter_map, fold}
use Rattle.std.specs.List.{list_any}
use Rattle.std.proofs.lemmas.Bool.{or_parts, or_from}
use Rattle.std.proofs.lemmas.List.Concat.{flat_map-append}
use Rattle.std.proofs.lemmas.List.Elements.{filter_map-append}
use Rattle.std.proofs.lemmas.List.Folds.{list_any-append}
use Rattle.net_model.specs.declared.config.Levels.{Levels}
use Rattle.net_model.specs.declared.config.Levels.TheVariants.{Both}
use Rattle.ios_lines.specs.Lookups.{later, last_of}
use Rattle.ios_lines.specs.FaultOrder.{faults_at}
use Rattle.ios_lines.specs.InterfaceLines.{in_vrf, counting, interface_line_fault}
use Rattle.ios_lines.specs.declared.fault.Fault.{Fault}
use Rattle.ios_lines.specs.declared.kind.ReadKind.{ReadKind}
use Rattle.ios_lines.specs.declared.interface_line.InterfaceLine.{InterfaceLine}
use Rattle.ios_lines.specs.declared.interface_line.InterfaceStatement.{InterfaceStatement}
use Rattle.ios_sections.specs.Processes.{mention_said}
use Rattle.ios_reader.specs.InterfaceFacts.{noted, facts_of}
use Rattle.ios_reader.specs.Faults.{membership_fault, statement_faults, interface_line_faults}
use Rattle.ios_reader.specs.declared.facts.InterfaceFacts.{InterfaceFacts}
use Rattle.isis_writer.specs.RouterLines.{is_old_line}
use Rattle.isis_writer.proofs.ListFacts.{later_none, none_left, none_right}
use Rattle.isis_writer.proofs.RouterWords.{interface_says}

-- ---- the last line of a form among lines and others behind them ----

later_later : {A : Type 0} (a b c : Option A) → later a (later b c) ≡ later (later a b) c
later_later a b c = grind (arith, common_steps)

pub last_of-append : {A B : Type 0} (form : A → Option B) (xs ys : List A) → last_of form (xs ++ ys) ≡ later (last_of form xs) (last_of form ys)
last_of-append form [] ys = sym (later_none (last_of form ys))
last_of-append form (x ∷ xs) ys = ap (later (form x)) (last_of-append form xs ys) ∙ later_later (form x) (last_of form xs) (last_of form ys)

-- ---- the lines that are written ----

-- lines of an interface, numbered from here
abbrev pub says_from : ℕ → List InterfaceLine → List InterfaceStatement
says_from n [] = []
says_from n (says ∷ more) = record { line = n; says = says } ∷ says_from (n + 1) more

-- what the line of the levels says
abbrev pub named_fact : Bool → Option Levels → Option (Result Levels ReadKind)
named_fact old None = cond old (Some (Ok Both)) None
named_fact old (Some levels) = Some (Ok levels)

abbrev pub circuit_fact : Bool → Bool → Option Levels → Option (Result Levels ReadKind)
circuit_fact old passive circuit = cond passive None (named_fact old circuit)

abbrev pub isis_fact : Bool → Option Bool
isis_fact passive = cond passive None (Some true)

abbrev pub level_fact : Bool → ℕ → Option (Result ℕ ReadKind)
level_fact old metric = cond old (Some (Ok metric)) None

-- the facts with the lines that are written
abbrev pub grown_facts : InterfaceFacts → Bool → Bool → Option Levels → ℕ → InterfaceFacts
grown_facts f old passive circuit metric = record f {
  isis = later f.isis (isis_fact passive);
  circuit = later f.circuit (circuit_fact old passive circuit);
  metric = Some (Ok metric);
  metric1 = later f.metric1 (level_fact old metric);
  metric2 = later f.metric2 (level_fact old metric);
}

facts_written : (f : InterfaceFacts) (n : ℕ) (old passive : Bool) (circuit : Option Levels) (metric : ℕ) →
    fold noted f (says_from n (interface_says old passive circuit metric)) ≡ grown_facts f old passive circuit metric
facts_written f n old passive circuit metric = grind (arith, common_steps)

pub facts_grown : (lines : List InterfaceStatement) (n : ℕ) (old passive : Bool) (circuit : Option Levels) (metric : ℕ) →
    facts_of (lines ++ says_from n (interface_says old passive circuit metric)) ≡ grown_facts (facts_of lines) old passive circuit metric
facts_grown lines n old passive circuit metric = grind (arith, common_steps, circuit, facts_written, interface_says)

-- ---- whether they count ----

no_vrf : (n : ℕ) (old passive : Bool) (circuit : Option Levels) (metric : ℕ) → in_vrf (says_from n (interface_says old passive circuit metric)) ≡ false
no_vrf n old passive circuit metric = grind arith

pub counting_outside : (lines : List InterfaceStatement) → in_vrf lines ≡ false → counting lines ≡ lines
counting_outside lines outside = ap (λ (b : Bool). cond b [] lines) outside

pub counting_grown : (lines : List InterfaceStatement) (n : ℕ) (old passive : Bool) (circuit : Option Levels) (metric : ℕ) → in_vrf lines ≡ false →
    counting (lines ++ says_from n (interface_says old passive circuit metric)) ≡ lines ++ says_from n (interface_says old passive circuit metric)
counting_grown lines n old passive circuit metric outside =
    grind (arith, common_steps, circuit, counting_outside, interface_says, list_any-append, no_vrf, or_from)

-- ---- what they name ----

no_mention : (n : ℕ) (old passive : Bool) (circuit : Option Levels) (metric : ℕ) →
    filter_map (λ (t : InterfaceStatement). mention_said t.line t.says) (says_from n (interface_says old passive circuit metric)) ≡ []
no_mention n old passive circuit metric = grind arith

pub mentions_grown : (lines : List InterfaceStatement) (n : ℕ) (old passive : Bool) (circuit : Option Levels) (metric : ℕ) →
    filter_map (λ (t : InterfaceStatement). mention_said t.line t.says) (lines ++ says_from n (interface_says old passive circuit metric))
    ≡ filter_map (λ (t : InterfaceStatement). mention_said t.line t.says) lines
mentions_grown lines n old passive circuit metric =
    grind (arith, common_steps, circuit, filter_map-append, interface_says, no_mention)

-- ---- their faults ----

no_written_fault : (n : ℕ) (old passive : Bool) (circuit : Option Levels) (metric : ℕ) →
    interface_line_faults (Some []) (says_from n (interface_says old passive circuit metric)) ≡ []
no_written_fault n old passive circuit metric = grind arith

-- a line that has no fault without a process has none with one, and it doesn't run IS-IS
record NeedsNoProcess (f : InterfaceFacts) (s : InterfaceStatement) : Type 0 where
  fine : statement_faults (Some []) s ≡ []
  idle : (noted f s).isis ≡ f.isis

needs_none : (f : InterfaceFacts) (s : InterfaceStatement) → statement_faults None s ≡ [] → NeedsNoProcess f s
needs_none f s e = by_says s.says e
  where
    by_says : (says : InterfaceLine) → faults_at s.line (interface_line_fault says) ++ faults_at s.line (membership_fault None says) ≡ [] →
        NeedsNoProcess f (record { line = s.line; says = says })
    by_says says e = grind arith

-- the same of some lines, behind others of which this is known
pub record NeedNoProcess (f : InterfaceFacts) (lines : List InterfaceStatement) : Type 0 where
  pub fine : interface_line_faults (Some []) lines ≡ []
  pub idle : (fold noted f lines).isis ≡ f.isis

pub need_none : (f : InterfaceFacts) (lines : List InterfaceStatement) → interface_line_faults None lines ≡ [] → NeedNoProcess f lines
need_none f [] e = record { fine = refl; idle = refl }
need_none f (s ∷ lines) e =
    let one : NeedsNoProcess f s = needs_none f s (none_left (statement_faults None s) (interface_line_faults None lines) e) in
    let rest : NeedNoProcess (noted f s) lines =
    need_none (noted f s) lines (none_right (statement_faults None s) (interface_line_faults None lines) e) in
    record {
      fine = ap (λ (fs : List Fault). fs ++ interface_line_faults (Some []) lines) one.fine ∙ rest.fine;
      idle = rest.idle ∙ one.idle;
    }

pub no_fault_grown : (lines : List InterfaceStatement) (n : ℕ) (old passive : Bool) (circuit : Option Levels) (metric : ℕ) →
    interface_line_faults (Some []) lines ≡ [] →
    interface_line_faults (Some []) (lines ++ says_from n (interface_says old passive circuit metric)) ≡ []
no_fault_grown lines n old passive circuit metric fine =
    grind (arith, common_steps, circuit, fine, flat_map-append, interface_says, no_written_fault)

-- ---- without an old line ----

-- no line of these, behind others of which this is known, says a circuit type or a metric of a level
pub record SayNoOld (f : InterfaceFacts) (lines : List InterfaceStatement) : Type 0 where
  pub circuit : (fold noted f lines).circuit ≡ f.circuit
  pub metric1 : (fold noted f lines).metric1 ≡ f.metric1
  pub metric2 : (fold noted f lines).metric2 ≡ f.metric2

one_no_old : (f : InterfaceFacts) (line : ℕ) (says : InterfaceLine) → is_old_line says ≡ false →
    SayNoOld f (record { line = line; says = says } ∷ [])
one_no_old f line says e = grind arith

pub say_no_old : (f : InterfaceFacts) (lines : List InterfaceStatement) → list_any (λ (l : InterfaceStatement). is_old_line l.says) lines ≡ false →
    SayNoOld f lines
say_no_old f [] none = record { circuit = refl; metric1 = refl; metric2 = refl }
say_no_old f (s ∷ lines) none =
    let parts = or_parts (is_old_line s.says) (list_any (λ (l : InterfaceStatement). is_old_line l.says) lines) none in
    let one : SayNoOld f (s ∷ []) = one_no_old f s.line s.says parts.0 in
    let rest : SayNoOld (noted f s) lines = say_no_old (noted f s) lines parts.1 in
    record { circuit = rest.circuit ∙ one.circuit; metric1 = rest.metric1 ∙ one.metric1; metric2 = rest.metric2 ∙ one.metric2 }
