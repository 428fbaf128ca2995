use Rattle.std.proofs.Common.{ℕ, List, MatchOption, subst, ◌∙◌}
use Rattle.net_model.specs.Configuration.{Configuration}
use Rattle.net_model.specs.OffStarts.{IsLowestOffStart, StartsOff}
use Rattle.net_model.proofs.net.Net.off_start.Goals as goal

pub returns : goal.returns
returns c =
    subst (λ (l : List Configuration). MatchOption c.first_off_start.result ((u : ℕ) → StartsOff l u → ⊥) (IsLowestOffStart l))
    (c.as_slice.ensures.value ∙ c.self.view_is) c.first_off_start.ensures
