-- A network, a list and a fault have one picture.
use Rattle.std.proofs.Common.{◌≡◌, ◌∙◌, ℕ, List, Option, Some, None, IfSome, ap, refl, subst, sym}
use Rattle.std.proofs.lemmas.List.Elements.{All-contains}
use Rattle.std.proofs.lemmas.Option.{get_or_from_slice_get, slice_get_within}
use Rattle.net_addr.specs.Addresses.{Block, IsBlock}
use Rattle.net_addr.specs.LongestMatches.{IsBestMatch}
use Rattle.net_addr.proofs.LongestMatchLaws.{one_longest_match}
use Rattle.net_model.specs.Configuration.{Configuration, IsConfiguration, IsInterface}
use Rattle.net_model.specs.Network.{HasConfiguration, Network}
use Rattle.net_model.specs.Refusals.{IsNetwork}
use Rattle.igp_theory.specs.Forwarding.{IsOriginated}
use Rattle.igp_theory.specs.Loops.{Fault}
use Rattle.igp_theory.proofs.TableLaws.{hops_unique}
use Rattle.drawn_network.specs.LinkEnds.{AreLinkAreas, Link, links_of}
use Rattle.drawn_network.specs.PictureLaws.{HaveOnePicture}
use Rattle.igp_theory.specs.Laws.{fault_address}
use Rattle.drawn_network.specs.Pictures.{IsFaultTarget, drawn_text}

configuration_of : (net : Network) (u : ℕ) (c : Configuration) → IsNetwork net → HasConfiguration net u c → IsConfiguration c
configuration_of net u c network has =
    All-contains IsConfiguration net c network.configurations
    (u, slice_get_within net u c has, get_or_from_slice_get net u c c has)

-- an originated prefix is a block
originated_block : (net : Network) (p : Block) → IsNetwork net → IsOriginated net p → IsBlock p
originated_block net p network o =
    let config : IsConfiguration o.up.config = configuration_of net o.router o.up.config network o.up.router in
    let interface : IsInterface o.interface = All-contains IsInterface o.up.config.interfaces o.interface config.interfaces
    o.up.among in
    subst (λ (s : Option Block). IfSome s IsBlock) o.subnet interface.prefix

one_best : (net : Network) (a : ℕ) (p q : Option Block) → IsNetwork net → IsBestMatch (IsOriginated net) a p →
    IsBestMatch (IsOriginated net) a q → p ≡ q
one_best net a None None network one other = refl
one_best net a None (Some q) network one other = absurd (one q other.is_offered other.contains)
one_best net a (Some p) None network one other = absurd (other p one.is_offered one.contains)
one_best net a (Some p) (Some q) network one other =
    ap (λ (r : Block). Some r)
    (one_longest_match (IsOriginated net) a p q (originated_block net p network one.is_offered)
    (originated_block net q network other.is_offered) one other)

one_target_of : (net : Network) (fault : Option Fault) (p q : Option Block) → IsNetwork net → IsFaultTarget net fault p →
    IsFaultTarget net fault q → p ≡ q
one_target_of net None p q network one other = one ∙ sym other
one_target_of net (Some fault) p q network one other = one_best net (fault_address fault) p q network one other

one_areas : (links : List Link) (one other : List ℕ) → AreLinkAreas links one → AreLinkAreas links other → one ≡ other
one_areas links one other first second =
    hops_unique (record { exact = first.exact; ascending = first.ascending })
    (record { exact = second.exact; ascending = second.ascending })

pub one_picture : HaveOnePicture
one_picture net ranks said fault text other network first second =
    let target = one_target_of net fault first.target second.target network first.target_is second.target_is in
    let areas = one_areas (links_of net) first.areas second.areas first.areas_are second.areas_are in
    first.text_is ∙ (λ i. drawn_text net ranks said fault (target i) (areas i)) ∙ sym second.text_is
