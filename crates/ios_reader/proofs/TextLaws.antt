-- A text is read in one way or refused in one way.
use Rattle.std.proofs.lemmas.Grind.{common_steps}
use Rattle.std.proofs.Common.{◌≡◌, ℕ, List, [], ◌∷◌, Option, Some, None, get_or, Contains, inl, inr, ◌⊎◌, refl, sym, subst, ◌∙◌, arith}
use Rattle.std.proofs.lemmas.List.Elements.{All-contains}
use Rattle.net_model.specs.Configuration.{Configuration}
use Rattle.net_model.proofs.Members.{Contains-none}
use Rattle.ios_lines.specs.FaultOrder.{fault_at, rank, least_fault}
use Rattle.ios_lines.specs.declared.fault.Fault.{Fault}
use Rattle.ios_lines.specs.declared.kind.ReadKind.{ReadKind}
use Rattle.ios_lines.specs.declared.kind.ReadKind.TheVariants.{NoHostname, NoEnd, BadAddress, BadMask, BadCost, BadArea, SecondProcess, Unsupported}
use Rattle.ios_lines.specs.declared.kind.ReadKind.TheVariants.{LoopbackMask, BadNet, BadLevel, BadMetric, BadDistance, DistanceClash, NoBandwidth}
use Rattle.ios_sections.specs.TextLines.{lines_in}
use Rattle.ios_reader.specs.Faults.{faults_in}
use Rattle.ios_reader.specs.Configurations.{configurations_in, IsNotAfter, IsLeastFault}
use Rattle.ios_reader.specs.Texts.{ReadsText, IsRefusedText}
use Rattle.ios_reader.proofs.LeastFaults.{none_least}
use Rattle.ios_reader.proofs.ReadFacts.{least_is}

-- the kind at a place among the kinds
abbrev pub kind_at : ℕ → ReadKind
kind_at n = get_or
    (NoHostname ∷ NoHostname ∷ NoEnd ∷ BadAddress ∷ BadMask ∷ BadCost ∷ BadArea ∷ SecondProcess ∷ Unsupported ∷ LoopbackMask ∷ BadNet ∷ BadLevel ∷ BadMetric
    ∷ BadDistance ∷ DistanceClash ∷ NoBandwidth ∷ [])
    n NoHostname

pub kind_back : (kind : ReadKind) → kind_at (rank kind) ≡ kind
kind_back kind = grind arith

-- of two faults neither comes after the other
neither_after : (f g : Fault) → IsNotAfter f g → IsNotAfter g f → (f.line ≡ g.line) × (rank f.kind ≡ rank g.kind)
neither_after f g one other = grind arith

-- faults have one least
one_least : (faults : List Fault) (l m : ℕ) (k j : ReadKind) → IsLeastFault faults (fault_at l k) → IsLeastFault faults (fault_at m j) → (l ≡ m) × (k ≡ j)
one_least faults l m k j one other = grind (arith, common_steps, All-contains, kind_back, neither_after)

none_among : (faults : List Fault) (fault : Fault) → faults ≡ [] → IsLeastFault faults fault → ⊥
none_among faults fault none least = Contains-none fault (subst (λ (some : List Fault). Contains some fault) none least.among)

-- a text is read as one list of configurations
pub one_reading : (text : List ℕ) (one other : List Configuration) → ReadsText text one → ReadsText text other → one ≡ other
one_reading text one other a b = a.made ∙ sym b.made

-- a text that is read isn't refused
pub read_or_refused : (text : List ℕ) (configs : List Configuration) (line : ℕ) (kind : ReadKind) → ReadsText text configs → IsRefusedText text line kind → ⊥
read_or_refused text configs line kind read refused = none_among (faults_in (lines_in text)) (fault_at line kind) read.faultless refused

-- a text is refused at one line, with one kind
pub one_refusal : (text : List ℕ) (l m : ℕ) (k j : ReadKind) → IsRefusedText text l k → IsRefusedText text m j → (l ≡ m) × (k ≡ j)
one_refusal text l m k j one other = one_least (faults_in (lines_in text)) l m k j one other

answer_by : (text : List ℕ) (least : Option Fault) → least_fault (faults_in (lines_in text)) ≡ least →
    ((configs : List Configuration) × ReadsText text configs) ⊎ ((line : ℕ) × (kind : ReadKind) × IsRefusedText text line kind)
answer_by text None e =
    inl (configurations_in (lines_in text), record { faultless = none_least (faults_in (lines_in text)) e; made = refl })
answer_by text (Some fault) e = inr (fault.line, fault.kind, least_is (faults_in (lines_in text)) fault e)

-- each text is read or refused
pub some_answer : (text : List ℕ) → ((configs : List Configuration) × ReadsText text configs) ⊎ ((line : ℕ) × (kind : ReadKind) × IsRefusedText text line kind)
some_answer text = answer_by text (least_fault (faults_in (lines_in text))) refl
