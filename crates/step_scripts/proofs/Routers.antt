-- Names of routers.
use Rattle.std.proofs.Common.{◌≡◌, ℕ, ◌<◌, List, [], ◌∷◌, length, get_or, refl, sym, ◌∙◌, arith}
use Rattle.net_model.specs.Lookups.{IsNamed}
use Rattle.net_model.specs.Network.{Network}
use Rattle.net_model.proofs.Names.{named_at, named_from}

-- a router has one name
pub same_name : (net : Network) (one other : List ℕ) (u : ℕ) → IsNamed net one u → IsNamed net other u → one ≡ other
same_name net one other u n m = sym (named_at net one u n.config n) ∙ named_at net other u n.config m

-- a router has a name
pub has_name : (net : Network) (u : ℕ) → u < length net → (name : List ℕ) × IsNamed net name u
has_name [] u l = absurd (omega (arith, l))
has_name (d ∷ net) u l = ((get_or (d ∷ net) u d).name, named_from (d ∷ net) (get_or (d ∷ net) u d).name u d l refl)
