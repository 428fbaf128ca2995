-- The changes of a router up to a state of an order, and the lines that make them.
use Rattle.std.specs.Prelude.{◌≡◌, ℕ, ◌==◌, List, filter, take}
use Rattle.std.specs.List.{flat_map}
use Rattle.net_model.specs.Configuration.{Configuration}
use Rattle.net_model.specs.Network.{Network, HasConfiguration}
use Rattle.order_core.specs.Orders.{IsOrder}
use Rattle.igp_theory.specs.States.{state_of}
use Rattle.igp_theory.specs.Changes.{Change, changed}
use Rattle.igp_theory.specs.Waves.{run_along}
use Rattle.applied_changes.specs.AppliedTexts.{lines_to}
use Rattle.step_scripts.specs.Scripts.{change_lines}

-- the changes of router u among the first k along an order
abbrev pub made_on : ℕ → ℕ → List ℕ → List Change
made_on u k order = filter (λ (c : Change). changed c == u) (take k (run_along order))

-- their lines are those that take the router to its phase in state k of the order
abbrev pub MadeLinesLaw : Type 0
MadeLinesLaw =
    (net : Network) (n : ℕ) (order : List ℕ) (k u : ℕ) (c : Configuration) → IsOrder n order → HasConfiguration net u c →
    flat_map (change_lines net) (made_on u k order) ≡ lines_to (state_of order k u) c
