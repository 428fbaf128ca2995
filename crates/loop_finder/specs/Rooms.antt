-- Room to work in.
use Rattle.std.specs.Prelude.{◌≡◌, ℕ, ◌≤◌, vec_len}
use Rattle.std.specs.Vec.{vec_capacity}
use Rattle.loop_finder.specs.declared.room.Room.{Room}

-- the room is enough for n routers
pub record HasRoom (n : ℕ) (room : Room) : Type 0 where
  pub forwards : vec_len room.forwards ≡ n
  pub live : vec_len room.live ≡ n
  pub path : n ≤ vec_capacity room.path
  pub ring : n ≤ vec_capacity room.ring
