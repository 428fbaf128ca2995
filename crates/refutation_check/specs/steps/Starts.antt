-- How far the line of a start has been read.
use Rattle.std.specs.Prelude.{◌≡◌, ℕ, ◌+◌, ◌/◌, ◌<◌, ◌≤◌, ◌⊎◌, List, [], ◌∷◌, ◌++◌, length, codes, All, AllPairs}
use Rattle.net_addr.specs.Spans.{LiesIn}
use Rattle.net_addr.specs.declared.span.Span.{Span}
use Rattle.net_model.specs.Network.{Network}
use Rattle.net_model.specs.RouterNames.{names_of}
use Rattle.igp_theory.specs.declared.phase.Phase.{Phase}
use Rattle.change_orders.specs.ChangeWords.{IsChangeWord, NamesItem}
use Rattle.refutation_check.specs.StartLines.{HasStartForm, StandInOrder, done_words}
use Rattle.refutation_check.specs.steps.Spans.{span_texts}

-- words are those of changes, and none stands behind one of a router with a higher number
pub record AreChangesInOrder (net : Network) (entries : List (List ℕ)) : Type 0 where
  pub changes : All IsChangeWord entries
  pub in_order : AllPairs (StandInOrder net) entries

-- words have the form of a start's, and these are those behind its first one
pub record IsStartShape (net : Network) (text : List ℕ) (words : List (List ℕ)) (entries : List Span) : Type 0 where
  pub words_are : words ≡ codes "start" ∷ span_texts text entries
  pub form : HasStartForm net words
  pub inside : All (LiesIn text) entries

-- words behind the first one tell a start
pub record TellStart (net : Network) (entries : List (List ℕ)) (start : List Phase) : Type 0 where
  pub each : length start ≡ length net
  pub entries_are : entries ≡ done_words (names_of net) start

-- the phases of some first routers, up to the last one of which a word tells a change
pub record TakesEntry (net : Network) (word : List ℕ) (before after : List Phase) : Type 0 where
  pub told : done_words (names_of net) after ≡ done_words (names_of net) before ++ word ∷ []
  pub within : length after ≤ length net
  pub item : ℕ
  pub names : NamesItem net word item
  pub last : item / 2 + 1 ≡ length after

-- a word names no router's change, or that of one of these first routers
abbrev pub NamesNoLaterRouter : Network → List ℕ → List Phase → Type 0
NamesNoLaterRouter net word start = (i : ℕ) → NamesItem net word i → i / 2 < length start

-- a word's change is of a router below this one
pub record NamesRouterBelow (net : Network) (word : List ℕ) (most : ℕ) : Type 0 where
  pub item : ℕ
  pub names : NamesItem net word item
  pub below : item / 2 < most

-- the highest router so far with a word more: that of the change which it names, or the same where it names none
pub record RaisesRouter (net : Network) (word : List ℕ) (most raised : ℕ) : Type 0 where
  pub more : most ≤ raised
  pub named : (i : ℕ) → NamesItem net word i → i / 2 ≡ raised
  pub known : (raised ≡ most) ⊎ ((i : ℕ) × NamesItem net word i)
