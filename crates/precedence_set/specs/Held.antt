-- How the fields of `Precedences` hold the assumed pairs.
use Rattle.std.specs.Prelude.{◌≡◌, ℕ, ◌+◌, ◌-◌, ◌≤◌, false, length, take, vec_len}
use Rattle.link_trail.specs.Lists.{lists_at_mark}
use Rattle.order_core.specs.Pairs.{AreBelow, HasNoCycle}
use Rattle.precedence_set.specs.Layers.{AreLayers}
use Rattle.precedence_set.specs.Successors.{AreSuccessors}
use Rattle.precedence_set.specs.Assumed.{Assumed}
use Rattle.precedence_set.specs.declared.precedences.Precedences.TheInside.{Inside}

-- the pairs are the first ones of the room, and the cycle the first routers of its room
abbrev pub assumed_of : Inside → Assumed
assumed_of a = record {
  routers = a.routers;
  pairs = take a.count a.room.items;
  cycle = take a.cycle_count a.cycle_room.items;
  spare = vec_len a.room - a.count;
}

-- the counts are within their rooms, each room has its size, the links held at each mark the
-- successors by the pairs so far, with one move for each pair, the pairs have no cycle, and the layers
-- are theirs where they aren't stale
pub record IsSettled (a : Inside) : Type 0 where
  pub few : a.routers ≤ 1000
  pub counted : a.count ≤ vec_len a.room
  pub bounded : vec_len a.room ≤ 1000000
  pub nodes : vec_len a.room ≤ a.successors.nodes
  pub spare : vec_len a.room ≤ a.count + a.successors.spare
  pub moves : length a.successors.trail ≡ a.count
  pub marked : (i : ℕ) → i ≤ a.count → AreSuccessors a.routers (take i a.room.items) (lists_at_mark a.successors i)
  pub cycle_length : vec_len a.cycle_room ≡ a.routers
  pub cycle_counted : a.cycle_count ≤ a.routers
  pub marks_length : vec_len a.marks ≡ a.routers
  pub counts_length : vec_len a.counts ≡ a.routers
  pub order_length : vec_len a.order ≡ a.routers
  pub layers_length : vec_len a.layers ≡ a.routers
  pub below : AreBelow a.routers (take a.count a.room.items)
  pub acyclic : HasNoCycle (take a.count a.room.items)
  pub layered : a.stale ≡ false → AreLayers a.routers (take a.count a.room.items) a.layers.items
