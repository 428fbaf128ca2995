use Rattle.std.proofs.Common.{ℕ, ◌<◌, [], map, get_or}
use Rattle.change_orders.specs.steps.Standing.{StandsIn}
use Rattle.change_orders.proofs.reading.is_chain.Given as goal

abbrev pub invariant-loop-place : goal.invariant-loop-place
invariant-loop-place l = (k : ℕ) → k < l.place → StandsIn l.net l.read.ranks.items (get_or (map (λ word. word.now) l.words) k []) k
