-- Lines that the planner skips though a router acts on them, by their forms: the first words of a line, behind which others may
-- stand. `docs/profile.md` says what a router does by each.
use Rattle.std.specs.Prelude.{Bool, not, false, ◌&&◌, ◌||◌, List, bytes_eq, codes}
use Rattle.std.specs.List.{list_any}
use Rattle.net_addr.specs.Blanks.{words_in}
use Rattle.ios_lines.specs.Words.{Word, begins_with_three, begins_with_two, lacks, says}
use Rattle.text_survey.specs.ToldLines.{ToldLine}
use Rattle.text_survey.specs.declared.told_line.LinePlace.{LinePlace}
use Rattle.text_survey.specs.declared.told_line.LinePlace.TheVariants.{Top, Interface, Ospf, Isis, Elsewhere}

-- at indent 0: `ip local policy route-map`, `ip default-network`, and `router` with another protocol than the two that are read
abbrev pub acts_at_top : List Word → Bool
acts_at_top words =
    begins_with_three words (codes "ip") (codes "local") (codes "policy") && says words 3 (codes "route-map")
    || begins_with_two words (codes "ip") (codes "default-network")
    || says words 0 (codes "router") && not (lacks words 1 || says words 1 (codes "ospf") || says words 1 (codes "isis"))

-- below an interface, by `ip` and the second word
abbrev pub acts_by_ip : List Word → Bool
acts_by_ip words =
    says words 1 (codes "policy") && says words 2 (codes "route-map")
    || says words 1 (codes "ospf") && (
    says words 2 (codes "prefix-suppression")
    || says words 2 (codes "database-filter")
    || says words 2 (codes "multi-area")
    || says words 2 (codes "shutdown"))
    || says words 1 (codes "access-group")
    || says words 1 (codes "verify") && says words 2 (codes "unicast")
    || says words 1 (codes "nat")

-- below an interface, of IS-IS
abbrev pub acts_by_isis : List Word → Bool
acts_by_isis words =
    begins_with_three words (codes "isis") (codes "protocol") (codes "shutdown")
    || begins_with_three words (codes "no") (codes "isis") (codes "advertise") && says words 3 (codes "prefix")

-- below an interface that is a tunnel
abbrev pub acts_by_tunnel : List Word → Bool
acts_by_tunnel words =
    begins_with_three words (codes "tunnel") (codes "mpls") (codes "traffic-eng")
    && says words 3 (codes "autoroute")
    && says words 4 (codes "announce")

-- below an interface
abbrev pub acts_on_interface : List Word → Bool
acts_on_interface words =
    says words 0 (codes "ip") && acts_by_ip words || acts_by_isis words || acts_by_tunnel words

-- below `router ospf`; with `neighbor` the second word is an address
abbrev pub acts_in_ospf : List Word → Bool
acts_in_ospf words =
    says words 0 (codes "prefix-suppression")
    || begins_with_two words (codes "no") (codes "discard-route")
    || says words 0 (codes "discard-route") && not (lacks words 2)
    || says words 0 (codes "neighbor") && (says words 2 (codes "database-filter") || says words 2 (codes "cost"))
    || begins_with_three words (codes "mpls") (codes "ldp") (codes "sync")
    || says words 0 (codes "table-map")

-- below `router isis`
abbrev pub acts_in_isis : List Word → Bool
acts_in_isis words =
    begins_with_two words (codes "protocol") (codes "shutdown")
    || begins_with_three words (codes "mpls") (codes "ldp") (codes "sync")
    || begins_with_two words (codes "set-attached-bit") (codes "route-map")
    || says words 0 (codes "distance") && not (lacks words 3)
    || says words 0 (codes "table-map")

-- a word that names a policy of routes
abbrev pub is_policy : Word → Bool
is_policy word = bytes_eq word (codes "route-map") || bytes_eq word (codes "prefix-list")

-- any use of such a policy below a process, unless it takes something back
abbrev pub uses_policy : List Word → Bool
uses_policy words = not (says words 0 (codes "no")) && list_any is_policy words

-- a line that stands there acts
abbrev pub acts_at : LinePlace → List Word → Bool
acts_at Top words = acts_at_top words
acts_at Interface words = acts_on_interface words
acts_at Ospf words = acts_in_ospf words || uses_policy words
acts_at Isis words = acts_in_isis words || uses_policy words
acts_at Elsewhere words = false

-- a line of a configuration acts
abbrev pub acts : ToldLine → Bool
acts line = acts_at line.place (words_in line.own)
