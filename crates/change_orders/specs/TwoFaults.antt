-- The faulty lines of an order file of single changes, counted from 1, and the least of them.
use Rattle.std.specs.Prelude.{◌≡◌, ℕ, ◌+◌, ◌<◌, ◌≤◌, ◌⊎◌, List, [], ◌∷◌, ◌++◌, length, slice_index_or, take, Some, All, Contains}
use Rattle.std.specs.Prelude.{slice_get, codes}
use Rattle.net_addr.specs.Lines.{line_texts}
use Rattle.net_model.specs.Network.{Network}
use Rattle.step_scripts.specs.WaveLines.{names_behind, waves_on, chains_on}
use Rattle.step_scripts.specs.WaveFiles.{all_in, AreOfEach}
use Rattle.step_scripts.specs.declared.version.Version.TheVariants.{Two}
use Rattle.change_orders.specs.ChangeWords.{change_word, IsChangeWord, NamesItem}
use Rattle.change_orders.specs.declared.kind.TwoKind.{TwoKind}
use Rattle.change_orders.specs.declared.kind.TwoKind.TheVariants.{Form, NotInNetwork, Twice, Missing, Early}
use Rattle.change_orders.specs.declared.kind.TwoRefusal.{TwoRefusal}
use Rattle.change_orders.specs.declared.kind.TwoRefusal.TheVariants.{Bad, OutOfMemory}

-- the first line of an order file of single changes
abbrev pub two_header : List ℕ
two_header = codes "order 3"

-- a line behind the header: the lines between the two, and the line
pub record TwoEntry : Type 0 where
  pub before : List (List ℕ)
  pub line : List ℕ

abbrev pub two_entry : List (List ℕ) → List ℕ → TwoEntry
two_entry before line = record { before = before; line = line }

-- a line is this word and one or more words of changes, joined by one blank each, a space or a tab
pub record SaysChanges (word line : List ℕ) (words : List (List ℕ)) : Type 0 where
  pub says : names_behind word line ≡ Some words
  pub changes : All IsChangeWord words

-- what waves and chains say
abbrev pub IsWaveOf : List ℕ → List (List ℕ) → Type 0
IsWaveOf = SaysChanges (codes "wave")

abbrev pub IsChainLineOf : List ℕ → List (List ℕ) → Type 0
IsChainLineOf = SaysChanges (codes "chain")

-- what the waves on some lines name, one behind the other
abbrev pub stood_on : List (List ℕ) → List (List ℕ)
stood_on lines = all_in (waves_on Two lines)

-- the order of items is broken: a change stands behind one of a higher item; a word whose name is no router's has no item
pub record BreakItemOrder (net : Network) (words : List (List ℕ)) : Type 0 where
  pub place : ℕ
  pub later : ℕ
  pub before : place < later
  pub within : later < length words
  pub one : ℕ
  pub other : ℕ
  pub one_is : NamesItem net (slice_index_or words place []) one
  pub other_is : NamesItem net (slice_index_or words later []) other
  pub higher : other < one

-- a line is off the form of the file: it is neither a wave nor a chain, a chain stands before it, it is a chain that isn't one
-- of each wave before it in their order, or a wave that breaks the order of items
pub data IsOffForm (net : Network) (e : TwoEntry) : Type 0 where
  says_nothing : ((words : List (List ℕ)) → IsWaveOf e.line words → ⊥) → ((words : List (List ℕ)) → IsChainLineOf e.line words → ⊥) →
      IsOffForm net e
  behind_chain : (chains_on Two e.before ≡ [] → ⊥) → IsOffForm net e
  wrong_chain : (words : List (List ℕ)) → IsChainLineOf e.line words → (AreOfEach (waves_on Two e.before) words → ⊥) → IsOffForm net e
  unordered : (words : List (List ℕ)) → IsWaveOf e.line words → BreakItemOrder net words → IsOffForm net e

-- a wave has a change of no router
pub record NamesNoChange (net : Network) (e : TwoEntry) : Type 0 where
  pub words : List (List ℕ)
  pub wave : IsWaveOf e.line words
  pub word : List ℕ
  pub among : Contains words word
  pub unknown : (item : ℕ) → NamesItem net word item → ⊥

-- a wave has a change that stood before, in a wave on a line before or in front of it on its own line
pub record NamesChangeAgain (e : TwoEntry) : Type 0 where
  pub words : List (List ℕ)
  pub wave : IsWaveOf e.line words
  pub place : ℕ
  pub within : place < length words
  pub stood : Contains (stood_on e.before ++ take place words) (slice_index_or words place [])

-- a wave has the second change of a router whose first one stood on no line before
pub record NamesChangeEarly (e : TwoEntry) : Type 0 where
  pub words : List (List ℕ)
  pub wave : IsWaveOf e.line words
  pub name : List ℕ
  pub second : Contains words (change_word name 2)
  pub absent : Contains (stood_on e.before) (change_word name 1) → ⊥

-- a line behind the header is faulty with this kind, by itself and the lines before it
abbrev pub IsTwoFaultBehind : Network → TwoEntry → TwoKind → Type 0
IsTwoFaultBehind net e Form = IsOffForm net e
IsTwoFaultBehind net e NotInNetwork = NamesNoChange net e
IsTwoFaultBehind net e Twice = NamesChangeAgain e
IsTwoFaultBehind net e Missing = ⊥
IsTwoFaultBehind net e Early = NamesChangeEarly e

-- the line of this number, behind the header, is faulty with this kind
pub record HasTwoFault (net : Network) (text : List ℕ) (number : ℕ) (kind : TwoKind) : Type 0 where
  pub at : TwoEntry
  pub after : List (List ℕ)
  pub lines : line_texts text ≡ two_header ∷ (at.before ++ at.line ∷ after)
  pub number_is : number ≡ length at.before + 2
  pub fault : IsTwoFaultBehind net at kind

-- a text ends before the line of this number, and some change stands in no wave
pub record EndsTooEarly (net : Network) (text : List ℕ) (number : ℕ) : Type 0 where
  pub entries : List (List ℕ)
  pub lines : line_texts text ≡ two_header ∷ entries
  pub number_is : number ≡ length entries + 2
  pub item : ℕ
  pub word : List ℕ
  pub names : NamesItem net word item
  pub absent : Contains (stood_on entries) word → ⊥

-- the line of this number is faulty with this kind; the first line is off the form where it isn't the header
abbrev pub IsTwoFaultyLine : Network → List ℕ → ℕ → TwoKind → Type 0
IsTwoFaultyLine net text number Form =
    ((number ≡ 1) × (slice_get (line_texts text) 0 ≡ Some two_header → ⊥)) ⊎ HasTwoFault net text number Form
IsTwoFaultyLine net text number Missing = EndsTooEarly net text number
IsTwoFaultyLine net text number kind = HasTwoFault net text number kind

-- the place of a kind among the kinds
abbrev pub two_kind_rank : TwoKind → ℕ
two_kind_rank Form = 1
two_kind_rank NotInNetwork = 2
two_kind_rank Twice = 3
two_kind_rank Missing = 4
two_kind_rank Early = 5

-- the least faulty line of a text, and the lowest kind on it
pub record IsLeastTwoFault (net : Network) (text : List ℕ) (number : ℕ) (kind : TwoKind) : Type 0 where
  pub faulty : IsTwoFaultyLine net text number kind
  pub least : (other : ℕ) (its : TwoKind) → IsTwoFaultyLine net text other its → number ≤ other
  pub lowest : (its : TwoKind) → IsTwoFaultyLine net text number its → two_kind_rank kind ≤ two_kind_rank its

-- when each refusal comes; want of memory may come at any time
abbrev pub RefusesTwo : Network → List ℕ → TwoRefusal → Type 0
RefusesTwo net text (Bad number kind) = IsLeastTwoFault net text number kind
RefusesTwo net text OutOfMemory = Unit {0}
