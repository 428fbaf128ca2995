-- By how much the first offers of two lists differ.
use Rattle.std.specs.Prelude.{ℕ, List, [], ◌∷◌}
use Rattle.walk_core.specs.declared.offers.Offer.{Offer}

-- what the first offer asks, 0 where there is none
abbrev pub first_asks : List Offer → ℕ
first_asks [] = 0
first_asks (offer ∷ _) = offer.asks
