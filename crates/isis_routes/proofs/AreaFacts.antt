-- Attached routers.
use Rattle.std.proofs.lemmas.Grind.{common_steps}
use Rattle.std.proofs.Common.{◌≡◌, ◌≢◌, ℕ, ◌<◌, ◌↔◌, List, length, Option, Some, None, IsTrue, refl, sym, subst, arith}
use Rattle.std.specs.List.{Contains}
use Rattle.std.specs.Option.{is_some}
use Rattle.std.proofs.lemmas.Option.{none-some, same_Some}
use Rattle.std.proofs.lemmas.Bool.{false≢true}
use Rattle.net_model.proofs.Adjacency.{HasConfiguration-unique}
use Rattle.net_model.proofs.NetworkFacts.{HasConfiguration-within}
use Rattle.net_model.specs.Configuration.{Configuration}
use Rattle.net_model.specs.Network.{Network, HasConfiguration, Adjacent}
use Rattle.net_model.specs.declared.zone.Zone.TheVariants.{Two}
use Rattle.walk_core.specs.Reach.{Reach, distance_of, AreLeastWalks}
use Rattle.igp_theory.specs.Isis.{RunsLevelOne, RunsLevelTwo, IsAttached, OffersDefault}
use Rattle.isis_routes.specs.steps.Attached.{LeadsOutside, LeavesArea}
use Rattle.route_tables.specs.Lists.{Exactly}
use Rattle.isis_routes.specs.steps.Routing.{RunsBothLevels}

-- a router of another area is outside where it is reached
pub outside_by_distance : (net : Network) (u v : ℕ) (near far : Configuration) (reach : Reach) → HasConfiguration net u near → HasConfiguration net v far →
    (near.isis_area ≡ far.isis_area → ⊥) → AreLeastWalks (Adjacent net Two) u reach →
    (distance : Option ℕ) → distance ≡ distance_of reach v → IsTrue (is_some distance) ↔ LeadsOutside net u v
outside_by_distance net u v near far reach here there apart walks None is = (
  λ no. absurd (false≢true no),
  λ out. absurd ((walks.unreached v).0 (sym is) out.legs out.walk),
)
outside_by_distance net u v near far reach here there apart walks (Some d) is = (
  λ _. let least = (walks.distances v d).0 (sym is) in
      record { legs = least.legs; walk = least.walk.leads; near = near; far = far; near_router = here; far_router = there; other_area = apart },
  λ _. refl,
)

-- where no router below the count is outside, none is
pub not_leaving : (net : Network) (u n : ℕ) → length net ≡ n → ((v : ℕ) → v < n → LeadsOutside net u v → ⊥) → LeavesArea net u → ⊥
not_leaving net u n count none leaves = grind (arith, common_steps, HasConfiguration-within)

-- a router of both levels that level 2 leads out of its area is attached
attached_from : (net : Network) (u : ℕ) → RunsLevelOne net u → RunsLevelTwo net u → LeavesArea net u → IsAttached net u
attached_from net u one two leaves =
    let out = leaves.outside in
    let same : out.near ≡ two.config = HasConfiguration-unique net u out.near two.config out.near_router two.router in
    record {
      runs_level_one = one;
      runs_level_two = two;
      far = leaves.far;
      legs = out.legs;
      walk = out.walk;
      config = out.far;
      router = out.far_router;
      other_area = subst (λ (c : Configuration). c.isis_area ≢ out.far.isis_area) same out.other_area;
    }

attached_leaves : (net : Network) (u : ℕ) → IsAttached net u → LeavesArea net u
attached_leaves net u is = grind (arith, common_steps)

-- what a router of both levels asks of all addresses
pub default_asked : (net : Network) (u c : ℕ) → RunsBothLevels net u → LeavesArea net u → (Some 0 ≡ Some c) ↔ OffersDefault net u c
default_asked net u c runs leaves = grind (arith, common_steps, attached_from, same_Some)

pub default_unasked : (net : Network) (u c : ℕ) → (LeavesArea net u → ⊥) → (◌≡◌ {A = Option ℕ} None (Some c)) ↔ OffersDefault net u c
default_unasked net u c stays = (λ same. absurd (none-some c same), λ offers. absurd (stays (attached_leaves net u offers.attached)))

pub attached_both : (net : Network) (both : List ℕ) → Exactly (RunsBothLevels net) both → (b c : ℕ) → OffersDefault net b c → Contains both b
attached_both net both are b c offers = (are b).1 (record { one = offers.attached.runs_level_one; two = offers.attached.runs_level_two })
