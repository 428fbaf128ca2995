-- The text of what was planned between sound ends: a wave list with its chain, or a tree, of routers or of single changes.
use Rattle.std.specs.Prelude.{◌≡◌, ℕ, List, length, All}
use Rattle.net_model.specs.Network.{Network}
use Rattle.order_search.specs.declared.found.Found.{Found}
use Rattle.order_search.specs.declared.found.Found.TheVariants.{Waves, Refuted, Spent}
use Rattle.plan_theory.specs.Ranked.{size_of}
use Rattle.plan_theory.specs.declared.items.Items.{Items}
use Rattle.plan_theory.specs.declared.items.Items.TheVariants.{Routers, Changes}
use Rattle.refutation_check.specs.TreeTexts.{NodeBelow, ranked_tree_text}
use Rattle.step_scripts.specs.WavesTexts.{AreOneOfEach, waves_text}
use Rattle.change_orders.specs.TwoTexts.{two_text}

-- the text of a wave list with its chain, where these are the names of the routers
abbrev pub ranked_waves_text : Items → List (List ℕ) → List ℕ → List ℕ → List ℕ
ranked_waves_text Routers names ranks chain = waves_text names ranks chain
ranked_waves_text Changes names ranks chain = two_text names ranks chain

-- the text of what was found
abbrev pub planned_text : Items → List (List ℕ) → Found → List ℕ
planned_text items names (Waves ranks pairs chain trail) = ranked_waves_text items names ranks chain
planned_text items names (Refuted tree) = ranked_tree_text items names tree
planned_text items names (Spent tree) = ranked_tree_text items names tree

-- a wave list ranks the routers of a network, or their changes, and the chain has one of each wave
pub record ArePrintableWaves (items : Items) (net : Network) (ranks chain : List ℕ) : Type 0 where
  pub each : length ranks ≡ size_of items (length net)
  pub one_of_each : AreOneOfEach ranks chain

-- what was found has a text: it is of the routers of the network, or of their changes
abbrev pub IsPrintable : Items → Network → Found → Type 0
IsPrintable items net (Waves ranks pairs chain trail) = ArePrintableWaves items net ranks chain
IsPrintable items net (Refuted tree) = All (NodeBelow (size_of items (length net))) tree
IsPrintable items net (Spent tree) = All (NodeBelow (size_of items (length net))) tree
