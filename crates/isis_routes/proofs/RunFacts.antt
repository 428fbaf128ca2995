-- The routers of which something holds, router by router.
use Rattle.std.proofs.Common.{◌≡◌, ℕ, ◌<◌, ◌↔◌, List, [], length, Option, Some, Bool, IsTrue, sym, subst, refl}
use Rattle.net_model.specs.Network.{Network}
use Rattle.route_tables.specs.Lists.{Adds, Exactly}
use Rattle.route_tables.proofs.ListFacts.{AnyBelow, adds_same, exactly_below}
use Rattle.isis_routes.specs.steps.Routing.{IsThisRouter}

-- one more router, where it is so
pub where_added : (holds : ℕ → Type 0) (u : ℕ) (so : Bool) (found : Option ℕ) (old new : List ℕ) → IsTrue so ↔ holds u →
    ((v : ℕ) → (found ≡ Some v) ↔ IsThisRouter (λ _. IsTrue so) u v) → Adds old new (λ (v : ℕ). found ≡ Some v) → Adds old new (IsThisRouter holds u)
where_added holds u so found old new said is adds =
    adds_same old new (λ (v : ℕ). found ≡ Some v) (IsThisRouter holds u) adds
    (λ v. (
      λ e. let this = (is v).0 e in record { this = this.this; holds_of = said.0 this.holds_of },
      λ this. (is v).1 (record { this = this.this; holds_of = said.1 this.holds_of }),
    ))

-- those below the count of the network's routers are all of which it holds
pub routers_all : (net : Network) (holds : ℕ → Type 0) (first all : List ℕ) (n : ℕ) → first ≡ [] → Adds first all (AnyBelow (IsThisRouter holds) n) →
    length net ≡ n → ((u : ℕ) → holds u → u < length net) → Exactly holds all
routers_all net holds first all n empty adds count inside =
    exactly_below (IsThisRouter holds) holds first all n empty adds
    (λ u is. record { source = u; below = subst (λ (m : ℕ). u < m) count (inside u is); given = record { this = refl; holds_of = is } })
    (λ u v is. subst holds (sym is.this) is.holds_of)
