-- Room for two states, and to search their steps in.
use Rattle.std.specs.Prelude.{◌≡◌, ℕ, vec_len}
use Rattle.loop_finder.specs.Rooms.{HasRoom}
use Rattle.loop_finder.specs.declared.work.Work.{Work}

-- it is enough for n routers
pub record IsWork (n : ℕ) (work : Work) : Type 0 where
  pub first : vec_len work.first ≡ n
  pub last : vec_len work.last ≡ n
  pub room : HasRoom n work.room
