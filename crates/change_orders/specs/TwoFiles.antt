-- Which wave list of single changes an order file names.
use Rattle.std.specs.Prelude.{◌≡◌, ℕ, ◌+◌, ◌*◌, ◌<◌, ◌↔◌, List, ◌∷◌, length, Contains}
use Rattle.net_addr.specs.Lines.{line_texts}
use Rattle.net_model.specs.Network.{Network}
use Rattle.order_core.specs.Rankings.{IsRanking, rank_of}
use Rattle.step_scripts.specs.WaveLines.{waves_on}
use Rattle.step_scripts.specs.WaveFiles.{wave_at}
use Rattle.step_scripts.specs.declared.version.Version.TheVariants.{Two}
use Rattle.change_orders.specs.ChangeWords.{NamesItem}
use Rattle.change_orders.specs.TwoFaults.{two_header, IsTwoFaultyLine}
use Rattle.change_orders.specs.declared.kind.TwoKind.{TwoKind}

-- a text names the wave list of these ranks of items: it begins with the header, no line is faulty, and each change stands in the
-- wave of its rank and in no other
pub record NamesTwo (net : Network) (text : List ℕ) (ranks : List ℕ) : Type 0 where
  pub entries : List (List ℕ)
  pub lines : line_texts text ≡ two_header ∷ entries
  pub faultless : (number : ℕ) (kind : TwoKind) → IsTwoFaultyLine net text number kind → ⊥
  pub each : length ranks ≡ 2 * length net
  pub seats : (word : List ℕ) (item w : ℕ) → NamesItem net word item →
      Contains (wave_at (waves_on Two entries) w) word ↔ (w ≡ rank_of ranks item)

-- in a ranking of the changes of n routers the first change of each router comes before its second
pub record AreTwoWaves (n : ℕ) (ranks : List ℕ) : Type 0 where
  pub ranking : IsRanking (2 * n) ranks
  pub in_turn : (u : ℕ) → u < n → rank_of ranks (2 * u) < rank_of ranks (2 * u + 1)
