-- What the search asks of a network: which rankings are good, which loops there are, and which loop is told of a ranking.
use Rattle.std.specs.Prelude.{ℕ, List, [], length, All}
use Rattle.order_core.specs.Rankings.{IsRanking, KeepsPairs}
use Rattle.order_core.specs.declared.turn.Turn.{Turn}
use Rattle.igp_theory.specs.Loops.{IsLoop, loop}
use Rattle.igp_theory.specs.Migrations.{Migration}
use Rattle.igp_theory.specs.Timetables.{IsSoundThroughout, router_times}
use Rattle.igp_theory.specs.WaveFaults.{IsTimesFault}
use Rattle.igp_theory.specs.Waves.{AreSeamlessWaves}
use Rattle.order_search.specs.Meanings.{Meaning}
use Rattle.plan_theory.specs.Ranked.{Ranked, changes_ranked}
use Rattle.plan_theory.specs.declared.items.Items.{Items}
use Rattle.plan_theory.specs.declared.items.Items.TheVariants.{Routers, Changes}

-- Whatever is ranked

-- a ranking of all numbers is good where it keeps the base and the migration is sound throughout its timetable
pub record IsGoodRanking (move : Migration) (r : Ranked) (ranks : List ℕ) : Type 0 where
  pub waves : IsRanking r.size ranks
  pub keeps : KeepsPairs ranks r.base
  pub throughout : IsSoundThroughout move (r.times ranks)

-- turns loop for an address: their ring is a loop of the network, and each names the number that it has to name
pub record LoopFor (move : Migration) (r : Ranked) (address : ℕ) (turns : List Turn) : Type 0 where
  pub is_loop : IsLoop move address (r.ring turns)
  pub named : All (r.names address) turns

-- the loop that is told of a ranking: the fault of its timetable, which is that of its first wave with an unsound state
pub record IsToldFor (move : Migration) (r : Ranked) (ranks : List ℕ) (address : ℕ) (turns : List Turn) : Type 0 where
  pub wave : ℕ
  pub is_fault : IsTimesFault move (r.times ranks) wave (loop address (r.ring turns))
  pub named : All (r.names address) turns

-- Routers: a wave list is good where it is seamless, what may be branched on are the loops of the network, and no pair is assumed
-- from the start

pub record IsPickedFault (move : Migration) (ranks : List ℕ) (address : ℕ) (turns : List Turn) : Type 0 where
  pub wave : ℕ
  pub is_fault : IsTimesFault move (router_times move.start ranks) wave (loop address turns)

abbrev pub waves_meaning : Migration → Meaning
waves_meaning move = record {
  good = AreSeamlessWaves move;
  real = IsLoop move;
  picked = IsPickedFault move;
  size = length move.net;
  base = [];
}

-- Single changes

abbrev pub changes_meaning : Migration → Meaning
changes_meaning move = record {
  good = IsGoodRanking move (changes_ranked move);
  real = LoopFor move (changes_ranked move);
  picked = IsToldFor move (changes_ranked move);
  size = (changes_ranked move).size;
  base = (changes_ranked move).base;
}

-- Either

abbrev pub night_meaning : Items → Migration → Meaning
night_meaning Routers move = waves_meaning move
night_meaning Changes move = changes_meaning move
