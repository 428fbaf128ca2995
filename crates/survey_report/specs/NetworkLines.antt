-- The lines that tell a network, and what stands out in it. Routers are told by their names, which stand in the order of their
-- numbers.
use Rattle.std.specs.Prelude.{ℕ, List, [], ◌∷◌, ◌++◌, codes, decimal, map}
use Rattle.net_model.specs.Configuration.{Configuration}
use Rattle.net_model.specs.Limits.{up_interfaces}
use Rattle.net_model.specs.declared.interface.Interface.{Interface}
use Rattle.network_survey.specs.Pairs.{PortPair}
use Rattle.network_survey.specs.Ports.{Port}
use Rattle.network_survey.specs.Routers.{isis_interfaces, ospf_interfaces}
use Rattle.printed_lines.specs.Words.{dotted, joined, prefix_word, router_word}
use Rattle.survey_report.specs.declared.kinds.Protocol.{Protocol}
use Rattle.survey_report.specs.declared.kinds.Protocol.TheVariants.{Ospf, Level1, Level2}

-- OSPF, or a level of IS-IS, as it is named
abbrev pub protocol_word : Protocol → List ℕ
protocol_word Ospf = codes "ospf"
protocol_word Level1 = codes "level-1"
protocol_word Level2 = codes "level-2"

-- what an interface costs it
abbrev pub protocol_cost : Protocol → Interface → ℕ
protocol_cost Ospf i = i.cost
protocol_cost Level1 i = i.metric1
protocol_cost Level2 i = i.metric2

-- how much was read: routers, up interfaces, subnets that routers share, all subnets
abbrev pub counts_line : ℕ → ℕ → ℕ → ℕ → List ℕ
counts_line routers interfaces links prefixes =
    joined
    (codes "survey" ∷ decimal routers ∷ codes "routers" ∷ decimal interfaces ∷ codes "interfaces" ∷ decimal links ∷ codes "links"
    ∷ decimal prefixes ∷ codes "prefixes" ∷ [])

-- a router, with its areas
abbrev pub read_router_line : Configuration → List ℕ → List ℕ
read_router_line c areas =
    joined
    (codes "router" ∷ c.name ∷ codes "up" ∷ decimal (up_interfaces c) ∷ codes "ospf" ∷ decimal (ospf_interfaces c) ∷ codes "isis"
    ∷ decimal (isis_interfaces c) ∷ codes "areas" ∷ map decimal areas)

-- a router that stands out, behind a word
abbrev pub router_line : List ℕ → List (List ℕ) → ℕ → List ℕ
router_line word names u = joined (word ∷ router_word names u ∷ [])

-- an interface: its subnet, its router, its name
abbrev pub port_words : List (List ℕ) → Port → List (List ℕ)
port_words names port = prefix_word port.subnet ∷ router_word names port.router ∷ port.interface.name ∷ []

-- an interface where OSPF has no neighbor
abbrev pub half_line : List (List ℕ) → Port → List ℕ
half_line names port = joined (codes "half" ∷ port_words names port)

-- an interface where a protocol has none, though other routers are there
abbrev pub one_side_line : Protocol → List (List ℕ) → Port → List ℕ
one_side_line by names port = joined (codes "oneside" ∷ protocol_word by ∷ port_words names port)

-- the address of an interface, a slash (47) and the length of its mask
abbrev pub mask_word : Port → List ℕ
mask_word port = dotted port.interface.address ++ 47 ∷ decimal port.subnet.len

-- this word, and its router
abbrev pub masked_words : List (List ℕ) → Port → List (List ℕ)
masked_words names port = mask_word port ∷ router_word names port.router ∷ []

-- two interfaces whose masks don't fit
abbrev pub masks_line : List (List ℕ) → PortPair → List ℕ
masks_line names pair = joined (codes "masks" ∷ masked_words names pair.one ++ masked_words names pair.other)

-- the first router, and one that no walk joins with it
abbrev pub apart_line : List (List ℕ) → ℕ → List ℕ
apart_line names u = joined (codes "apart" ∷ router_word names 0 ∷ router_word names u ∷ [])

-- an end of a link: its router, and what it costs
abbrev pub end_words : Protocol → List (List ℕ) → Port → List (List ℕ)
end_words by names port = router_word names port.router ∷ decimal (protocol_cost by port.interface) ∷ []

-- the two ends of a link, at two costs
abbrev pub uneven_line : Protocol → List (List ℕ) → PortPair → List ℕ
uneven_line by names pair =
    joined (codes "uneven" ∷ prefix_word pair.one.subnet ∷ protocol_word by ∷ end_words by names pair.one ++ end_words by names pair.other)
