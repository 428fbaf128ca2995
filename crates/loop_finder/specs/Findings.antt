-- What a finder keeps from call to call.
use Rattle.std.specs.Prelude.{◌≡◌, ℕ, ◌^◌, ◌<◌, Bool, List, length}
use Rattle.std.specs.Bool.{OnTrue}
use Rattle.loop_finder.specs.Calm.{AreCalm}
use Rattle.loop_finder.specs.Orders.{AreFirstStates}
use Rattle.igp_theory.specs.Phases.{all_old, state_in}
use Rattle.igp_theory.specs.declared.phase.Phase.{Phase}
use Rattle.loop_finder.specs.Parts.{ClassPart}
use Rattle.loop_finder.specs.Works.{IsWork}
use Rattle.loop_finder.specs.Mixes.{Mix}
use Rattle.loop_finder.specs.Soundness.{Sound}
use Rattle.loop_finder.specs.Subjects.{IsSubject}
use Rattle.loop_finder.specs.Times.{times_in}
use Rattle.loop_finder.specs.declared.calm.Calm.{Calm}
use Rattle.loop_finder.specs.declared.pieces.Pieces.{Pieces}
use Rattle.loop_finder.specs.declared.work.Work.{Work}
use Rattle.loop_finder.specs.declared.times.ChangeWaves.{ChangeWaves}

-- what is searched, what is known of the latest timetable, the latest order and how many of its first states are sound, the start,
-- whether every router is Old there, and whether it is sound, and room to work in
pub record Kept : Type 0 where
  pub parts : List ClassPart
  pub pieces : Pieces
  pub watch : List (List ℕ)
  pub calm : Calm
  pub order : List ℕ
  pub sound : ℕ
  pub start : List Phase
  pub from_old : Bool
  pub begun : Bool
  pub asked : List ChangeWaves
  pub work : Work

-- they are so, and there is room to work in
pub record IsFinding (m : Mix) (kept : Kept) : Type 0 where
  pub few : length m.net < 2 ^ 32
  pub subject_is : IsSubject m kept.parts kept.pieces kept.watch
  pub times_many : length kept.calm.times.items ≡ length m.net
  pub calm_is : AreCalm kept.pieces.all.items (times_in kept.calm.times.items) kept.calm.before.items
  pub order_many : length kept.order ≡ length m.net
  pub order_is : AreFirstStates (Sound m) kept.order kept.sound
  pub start_many : length kept.start ≡ length m.net
  pub old_is : OnTrue kept.from_old (state_in kept.start ≡ all_old)
  pub begun_is : OnTrue kept.begun (Sound m (state_in kept.start))
  pub asked_many : length kept.asked ≡ length m.net
  pub work_is : IsWork (length m.net) kept.work
