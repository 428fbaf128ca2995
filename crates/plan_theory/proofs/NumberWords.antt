-- A word names one number, below the count of numbers.
use Rattle.std.proofs.Common.{◌≡◌, ℕ, ◌<◌, List, length}
use Rattle.net_model.specs.Network.{Network}
use Rattle.net_model.specs.Refusals.{NamesAscend}
use Rattle.net_model.proofs.Names.{named_within}
use Rattle.net_model.proofs.NetworkFacts.{IsNamed-unique}
use Rattle.plan_theory.specs.Ranked.{size_of}
use Rattle.plan_theory.specs.declared.items.Items.{Items}
use Rattle.plan_theory.specs.declared.items.Items.TheVariants.{Routers, Changes}
use Rattle.change_orders.proofs.ItemFacts.{NamesItem-unique, NamesItem-below}
use Rattle.plan_theory.specs.Numbers.{NamesNumber}

pub NamesNumber-unique : (items : Items) (net : Network) → NamesAscend net → (word : List ℕ) (i j : ℕ) → NamesNumber items net word i →
    NamesNumber items net word j → i ≡ j
NamesNumber-unique Routers net up word i j one two = IsNamed-unique net word i j up one two
NamesNumber-unique Changes net up word i j one two = NamesItem-unique net word i j up one two

pub NamesNumber-below : (items : Items) (net : Network) (word : List ℕ) (i : ℕ) → NamesNumber items net word i → i < size_of items (length net)
NamesNumber-below Routers net word i names = named_within net word i names
NamesNumber-below Changes net word i names = NamesItem-below net word i names
