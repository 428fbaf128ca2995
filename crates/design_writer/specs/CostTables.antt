-- The document of a design by costs: what it says, as TOML, and in which order.
use Rattle.std.specs.Prelude.{ℕ, Bool, ◌&&◌, List, [], ◌∷◌, codes, if◌then◌else◌, is_some, pos}
use Rattle.std.specs.Cmp.Lexicographic.{slice_cmp}
use Rattle.std.specs.Ordering.{match_ordering, nat_cmp}
use Rattle.net_model.specs.Configuration.{Configuration}
use Rattle.net_model.specs.Network.{Network}
use Rattle.net_model.specs.declared.config.Levels.{Levels}
use Rattle.net_model.specs.declared.config.Levels.TheVariants.{One, Two, Both}
use Rattle.net_model.specs.declared.interface.Interface.{Interface}
use Rattle.ios_lines.specs.Words.{Word}
use Rattle.toml.specs.Data.{Data, Members, integer, member, no_members, string, table}

-- an interface with an address that has an OSPF area
abbrev pub has_cost : Interface → Bool
has_cost i = is_some i.subnet && is_some i.area

-- the members, in the order of their keys, with this value at this key
abbrev pub put_member : Word → Data → Members → Members
put_member key value no_members = member key value no_members
put_member key value (member word its more) =
    match_ordering (slice_cmp nat_cmp key word) (member key value (member word its more)) (member word value more)
    (member word its (put_member key value more))

-- the table of an interface of this cost
abbrev pub cost_data : ℕ → Data
cost_data cost = table (member (codes "metric") (integer (pos cost)) no_members)

-- the members with the table of an interface, if it has a cost
abbrev pub with_cost : Interface → Members → Members
with_cost i members = if has_cost i then put_member i.name (cost_data i.cost) members else members

-- with those of interfaces, one after the other
abbrev pub with_interfaces : Members → List Interface → Members
with_interfaces members [] = members
with_interfaces members (i ∷ interfaces) = with_interfaces (with_cost i members) interfaces

-- the table of a router
abbrev pub router_data : Configuration → Data
router_data c = table (member (codes "interfaces") (table (with_interfaces no_members c.interfaces)) no_members)

-- the members with the tables of routers, one after the other
abbrev pub with_routers : Members → Network → Members
with_routers members [] = members
with_routers members (c ∷ net) = with_routers (put_member c.name (router_data c) members) net

-- the word for some levels
abbrev pub level_text : Levels → Word
level_text One = codes "1"
level_text Both = codes "1-2"
level_text Two = codes "2"

-- the document
abbrev pub document_by_costs : Word → Levels → Network → Members
document_by_costs area levels net =
    member (codes "area") (string area) (member (codes "level") (string (level_text levels))
    (member (codes "routers") (table (with_routers no_members net)) no_members))
