-- The line of a start in a tree file: the word `start`, then, in the order of routers, the word of the last change that each router
-- has made, which one that is Old hasn't; and why a line says no start.
use Rattle.std.specs.Prelude.{◌≡◌, ℕ, ◌/◌, ◌≤◌, List, [], ◌∷◌, ◌++◌, length, codes, All, AllPairs}
use Rattle.net_model.specs.Network.{Network}
use Rattle.net_model.specs.RouterNames.{names_of}
use Rattle.igp_theory.specs.declared.phase.Phase.{Phase}
use Rattle.igp_theory.specs.declared.phase.Phase.TheVariants.{Old, Middle, New}
use Rattle.change_orders.specs.ChangeWords.{change_word, IsChangeWord, NamesItem}
use Rattle.refutation_check.specs.declared.verdict.WrongKind.{WrongKind}
use Rattle.refutation_check.specs.declared.verdict.WrongKind.TheVariants.{Form, Router, Address, Originator, Step, OneSided, NotAssumed}

-- the word of the last change that a router of this name has made in a phase, where it has made one
abbrev pub made_words : List ℕ → Phase → List (List ℕ)
made_words name Old = []
made_words name Middle = change_word name 1 ∷ []
made_words name New = change_word name 2 ∷ []

-- these words of routers with these names, each in the phase at its place
abbrev pub done_words : List (List ℕ) → List Phase → List (List ℕ)
done_words names [] = []
done_words [] (phase ∷ start) = []
done_words (name ∷ names) (phase ∷ start) = made_words name phase ++ done_words names start

-- the words of a start
abbrev pub start_words : List (List ℕ) → List Phase → List (List ℕ)
start_words names start = codes "start" ∷ done_words names start

-- words say a start of a network: a phase for each of its routers
pub record SaysStart (net : Network) (words : List (List ℕ)) (start : List Phase) : Type 0 where
  pub each : length start ≡ length net
  pub words_are : words ≡ start_words (names_of net) start

-- words of two changes stand in the order of their routers: both changes of router u have u as half of their number, and a word
-- whose name is no router's has no number
abbrev pub StandInOrder : Network → List ℕ → List ℕ → Type 0
StandInOrder net one other = (i j : ℕ) → NamesItem net one i → NamesItem net other j → i / 2 ≤ j / 2

-- words have the form of a start's: the word `start`, and words of changes, none behind one of a router with a higher number
pub record HasStartForm (net : Network) (words : List (List ℕ)) : Type 0 where
  pub entries : List (List ℕ)
  pub words_are : words ≡ codes "start" ∷ entries
  pub changes : All IsChangeWord entries
  pub in_order : AllPairs (StandInOrder net) entries

-- words are wrong as those of a start: they haven't its form; or their names aren't those of distinct routers, so that they say
-- no start
abbrev pub WrongStart : Network → List (List ℕ) → WrongKind → Type 0
WrongStart net words Form = ¬ HasStartForm net words
WrongStart net words Router = (start : List Phase) → ¬ SaysStart net words start
WrongStart net words Address = ⊥
WrongStart net words Originator = ⊥
WrongStart net words Step = ⊥
WrongStart net words OneSided = ⊥
WrongStart net words NotAssumed = ⊥
