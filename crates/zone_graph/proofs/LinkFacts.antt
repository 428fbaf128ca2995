-- Links of one more interface.
use Rattle.std.proofs.Common.{inl, inr, List, [], ◌∷◌, ◌++◌, Some, None, subst, ap}
use Rattle.std.specs.List.{Contains}
use Rattle.std.proofs.lemmas.Option.{none-some, same_Some}
use Rattle.std.proofs.lemmas.List.Elements.{Contains-append_left, Contains-push, Contains-push_cases}
use Rattle.std.proofs.lemmas.List.Quantifiers.{Any-push}
use Rattle.net_addr.proofs.SomeElement.{any_cases, any_left}
use Rattle.net_model.specs.declared.interface.Interface.{Interface}
use Rattle.net_model.specs.declared.zone.Zone.{Zone}
use Rattle.zone_graph.specs.declared.links.Link.{Link}
use Rattle.zone_graph.specs.steps.LinkLists.{IsLinkOf, IsLinkAt, AreLinksOf}

-- one more interface, which is a link
pub links_more : (zone : Zone) (front : List Interface) (i : Interface) (links : List Link) (link : Link) → AreLinksOf zone front links →
    IsLinkAt zone i (Some link) →
    AreLinksOf zone (front ++ i ∷ []) (links ++ link ∷ [])
links_more zone front i links link before is other = (
  λ has. elim (Contains-push_cases links link other has) [
    | inl earlier ↦ any_left (λ x. IsLinkOf zone x other) front i ((before other).0 earlier)
    | inr same ↦ Any-push (λ x. IsLinkOf zone x other) front i ((is other).0 (ap Some same))
  ],
  λ any. elim (any_cases (λ x. IsLinkOf zone x other) front i any) [
    | inl earlier ↦ Contains-append_left links (link ∷ []) other ((before other).1 earlier)
    | inr now ↦ subst (λ (l : Link). Contains (links ++ link ∷ []) l) (same_Some link other ((is other).1 now)) (Contains-push links link)
  ],
)

-- one more interface, which is none
pub links_no_more : (zone : Zone) (front : List Interface) (i : Interface) (links : List Link) → AreLinksOf zone front links → IsLinkAt zone i None →
    AreLinksOf zone (front ++ i ∷ []) links
links_no_more zone front i links before none other = (
  λ has. any_left (λ x. IsLinkOf zone x other) front i ((before other).0 has),
  λ any. elim (any_cases (λ x. IsLinkOf zone x other) front i any) [
    | inl earlier ↦ (before other).1 earlier
    | inr now ↦ absurd (none-some other ((none other).1 now))
  ],
)
