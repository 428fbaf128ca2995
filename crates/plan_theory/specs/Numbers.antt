-- The words of numbers, and which number a router has for an address.
use Rattle.std.specs.Prelude.{◌≡◌, ℕ, ◌<◌, ◌↔◌, List, length, All}
use Rattle.igp_theory.specs.Migrations.{Migration}
use Rattle.net_model.specs.Lookups.{IsNamed}
use Rattle.net_model.specs.Network.{Network}
use Rattle.order_core.specs.declared.turn.Tag.{Tag}
use Rattle.order_core.specs.declared.turn.Turn.{Turn}
use Rattle.rib_mix.specs.Answers.{NextLeadsTo}
use Rattle.rib_mix.specs.declared.next.Next.{Next}
use Rattle.change_orders.specs.ChangeWords.{IsChangeWord, NamesItem}
use Rattle.plan_theory.specs.Ranked.{ranked}
use Rattle.plan_theory.specs.declared.items.Items.{Items}
use Rattle.plan_theory.specs.declared.items.Items.TheVariants.{Routers, Changes}

-- a word has the form of a number's: the name of a router, of a byte or more, or the word of a change
abbrev pub IsNumberWord : Items → List ℕ → Type 0
IsNumberWord Routers word = 0 < length word
IsNumberWord Changes word = IsChangeWord word

-- the number that a word names
abbrev pub NamesNumber : Items → Network → List ℕ → ℕ → Type 0
NamesNumber Routers net word number = IsNamed net word number
NamesNumber Changes net word number = NamesItem net word number

-- a turn of its parts
abbrev pub turn_of : ℕ → Tag → Turn
turn_of number tag = record { router = number; tag = tag }

-- turns of numbers, each the one that it has to name for an address, are those of some turns of routers
pub record AreNumbered (items : Items) (move : Migration) (a : ℕ) (turns numbered : List Turn) : Type 0 where
  pub ring : (ranked items move).ring numbered ≡ turns
  pub named : All ((ranked items move).names a) numbered

-- two answers forward to the same routers
abbrev pub ForwardAlike : Next → Next → Type 0
ForwardAlike one other = (h : ℕ) → NextLeadsTo one h ↔ NextLeadsTo other h
