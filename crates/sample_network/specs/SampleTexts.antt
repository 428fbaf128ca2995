-- The text of the sample network: the configurations of its routers, one behind the other. Each router runs OSPF in area 0 and
-- IS-IS on level 2, and IS-IS is idle at distance 255.
use Rattle.std.specs.Prelude.{ℕ, zero, suc, ◌+◌, ◌/◌, ◌%◌, List, [], ◌∷◌, ◌++◌, codes, decimal}
use Rattle.printed_lines.specs.Words.{dotted, joined, spaced}
use Rattle.printed_lines.specs.Texts.{text_of}
use Rattle.sample_network.specs.SampleLinks.{sample_cost, far_end, link_before, loopback, sample_metric, near_end}

-- the last two decimal digits of a number
abbrev pub two_digits : ℕ → List ℕ
two_digits i = (48 + i / 10 % 10) ∷ (48 + i % 10) ∷ []

-- ---- interfaces ----

abbrev pub sample_interface_line : List ℕ → List ℕ
sample_interface_line name = joined (codes "interface" ∷ name ∷ [])

abbrev pub sample_address_line : ℕ → List ℕ → List ℕ
sample_address_line address mask = spaced (codes "ip" ∷ codes "address" ∷ dotted address ∷ mask ∷ [])

abbrev pub sample_cost_line : ℕ → List ℕ
sample_cost_line cost = spaced (codes "ip" ∷ codes "ospf" ∷ codes "cost" ∷ decimal cost ∷ [])

abbrev pub sample_run_line : List ℕ
sample_run_line = spaced (codes "ip" ∷ codes "router" ∷ codes "isis" ∷ [])

abbrev pub sample_metric_line : ℕ → List ℕ
sample_metric_line metric = spaced (codes "isis" ∷ codes "metric" ∷ decimal metric ∷ [])

-- an interface of this name at an end of a link, with the address there
abbrev pub link_lines : ℕ → List ℕ → ℕ → ℕ → List (List ℕ)
link_lines n name address l =
    sample_interface_line name ∷ sample_address_line address (codes "255.255.255.252") ∷ sample_cost_line (sample_cost n l) ∷ sample_run_line
    ∷ sample_metric_line (sample_metric n l) ∷ []

-- the link to the next router, and the one to the router before
abbrev pub next_lines : ℕ → ℕ → List (List ℕ)
next_lines n i = link_lines n (codes "GigabitEthernet0/0") (near_end i) i

abbrev pub before_lines : ℕ → ℕ → List (List ℕ)
before_lines n i = link_lines n (codes "GigabitEthernet0/1") (far_end (link_before n i)) (link_before n i)

-- ---- routers ----

-- a router's name is S and its number
abbrev pub sample_hostname_line : ℕ → List ℕ
sample_hostname_line i = joined (codes "hostname" ∷ (codes "S" ++ two_digits i) ∷ [])

-- its name and its loopback
abbrev pub loopback_lines : ℕ → List (List ℕ)
loopback_lines i =
    sample_hostname_line i ∷ sample_interface_line (codes "Loopback0") ∷ sample_address_line (loopback i) (codes "255.255.255.255")
    ∷ sample_run_line ∷ []

-- its OSPF process takes every interface of 10.0.0.0/8 into area 0
abbrev pub sample_ospf_lines : List (List ℕ)
sample_ospf_lines = codes "router ospf 1" ∷ codes " network 10.0.0.0 0.255.255.255 area 0" ∷ []

-- the network entity title: area 49.0001, a system id that ends with the router's number, the selector 00
abbrev pub sample_title_line : ℕ → List ℕ
sample_title_line i = spaced (codes "net" ∷ (codes "49.0001.0000.0000.00" ++ two_digits i ++ codes ".00") ∷ [])

-- its IS-IS process, idle at distance 255
abbrev pub sample_isis_lines : ℕ → List (List ℕ)
sample_isis_lines i =
    codes "router isis" ∷ sample_title_line i ∷ codes " is-type level-2-only" ∷ codes " metric-style wide" ∷ codes " distance 255" ∷ []

-- the configuration of router i of n
abbrev pub sample_router_lines : ℕ → ℕ → List (List ℕ)
sample_router_lines n i = loopback_lines i ++ next_lines n i ++ before_lines n i ++ sample_ospf_lines ++ sample_isis_lines i ++ codes "end" ∷ []

-- the configurations of the first i routers of n, in the order of their numbers
abbrev pub routers_to : ℕ → ℕ → List (List ℕ)
routers_to n zero = []
routers_to n (suc i) = routers_to n i ++ sample_router_lines n (suc i)

-- the text of the sample network of n routers
abbrev pub sample_text : ℕ → List ℕ
sample_text n = text_of (routers_to n n)
