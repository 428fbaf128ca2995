-- The tables of a design by costs: what holds of all of them, and that they can be printed.
use Rattle.std.proofs.Common.{◌≡◌, ◌≤◌, true, false, Bool, ◌&&◌, cond, max, List, [], ◌∷◌, Contains}
use Rattle.std.proofs.Common.{refl, sym, subst, arith}
use Rattle.std.specs.Prelude.{is_some}
use Rattle.std.proofs.lemmas.List.Elements.{All-contains}
use Rattle.net_model.specs.Configuration.{Configuration, IsConfiguration, IsInterface}
use Rattle.net_model.specs.Network.{Network}
use Rattle.net_model.specs.declared.config.Levels.{Levels}
use Rattle.net_model.specs.declared.config.Levels.TheVariants.{One, Two, Both}
use Rattle.net_model.specs.declared.interface.Interface.{Interface}
use Rattle.net_model.proofs.Members.{Contains-first, Contains-rest}
use Rattle.ios_lines.specs.Words.{Word}
use Rattle.toml.specs.Data.{Data, Members, depth, has_valid_dates, member, members_depth, members_have_valid_dates, no_members}
use Rattle.design_file.specs.Designs.{IsMetric}
use Rattle.design_file.specs.Values.{levels_named}
use Rattle.design_writer.specs.CostTables.{has_cost}
use Rattle.design_writer.specs.CostTables.{cost_data, document_by_costs, level_text, put_member, router_data, with_cost, with_interfaces, with_routers}
use Rattle.design_file.proofs.MetricTables.{AllMembers, IsMetricTable, IsMetricsTable}
use Rattle.design_writer.proofs.MemberPuts.{put_all_hold}

-- ---- the tables ----

pub cost_is_metric : (i : Interface) → IsInterface i → IsMetric i.cost
cost_is_metric i is = (omega (arith, is.cost), omega (arith, is.cost))

-- of each of interfaces with a fact that this is so
pub interfaces_hold : (P : Word → Data → Type 0) (interfaces : List Interface) (ms : Members) →
    ((i : Interface) → Contains interfaces i → has_cost i ≡ true → P i.name (cost_data i.cost)) → AllMembers P ms →
    AllMembers P (with_interfaces ms interfaces)
interfaces_hold P [] ms each all = all
interfaces_hold P (i ∷ interfaces) ms each all =
    interfaces_hold P interfaces (with_cost i ms) (λ j c. each j (Contains-rest i interfaces j c)) (here (has_cost i) refl)
  where
    here : (b : Bool) → has_cost i ≡ b → AllMembers P (cond b (put_member i.name (cost_data i.cost) ms) ms)
    here true costs = put_all_hold P i.name (cost_data i.cost) ms (each i (Contains-first i interfaces) costs) all
    here false none = all

pub routers_hold : (P : Word → Data → Type 0) (net : Network) (ms : Members) →
    ((c : Configuration) → Contains net c → P c.name (router_data c)) → AllMembers P ms → AllMembers P (with_routers ms net)
routers_hold P [] ms each all = all
routers_hold P (c ∷ net) ms each all =
    routers_hold P net (put_member c.name (router_data c) ms) (λ d among. each d (Contains-rest c net d among))
    (put_all_hold P c.name (router_data c) ms (each c (Contains-first c net)) all)

pub cost_tables : (c : Configuration) → IsConfiguration c → AllMembers (λ _ its. IsMetricTable its) (with_interfaces no_members c.interfaces)
cost_tables c is =
    interfaces_hold (λ _ its. IsMetricTable its) c.interfaces no_members
    (λ i among costs. record { metric = i.cost; within = cost_is_metric i (All-contains IsInterface c.interfaces i is.interfaces among); is = refl }) tt

pub router_table : (c : Configuration) → IsConfiguration c → IsMetricsTable (router_data c)
router_table c is = record { interfaces = with_interfaces no_members c.interfaces; metrics = cost_tables c is; is = refl }

pub router_tables : (net : Network) → ((c : Configuration) → Contains net c → IsConfiguration c) →
    AllMembers (λ _ its. IsMetricsTable its) (with_routers no_members net)
router_tables net are = routers_hold (λ _ its. IsMetricsTable its) net no_members (λ c among. router_table c (are c among)) tt

-- the word for some levels says some
pub levels_fine : (levels : Levels) → is_some (levels_named (level_text levels)) ≡ true
levels_fine One = refl
levels_fine Both = refl
levels_fine Two = refl

-- ---- printing ----

costs_depth : (ms : Members) → AllMembers (λ _ its. IsMetricTable its) ms → members_depth ms ≤ 1
costs_depth no_members all = omega arith
costs_depth (member word d ms) all =
    let rest = costs_depth ms all.1 in subst (λ (its : Data). max (depth its) (members_depth ms) ≤ 1) (sym all.0.is) (omega (arith, rest))

routers_depth : (ms : Members) → AllMembers (λ _ its. IsMetricsTable its) ms → members_depth ms ≤ 3
routers_depth no_members all = omega arith
routers_depth (member word d ms) all =
    let rest = routers_depth ms all.1 in
    let inner = costs_depth all.0.interfaces all.0.metrics in
    subst (λ (its : Data). max (depth its) (members_depth ms) ≤ 3) (sym all.0.is) (omega (arith, rest, inner))

pub document_depth : (area : Word) (levels : Levels) (net : Network) → ((c : Configuration) → Contains net c → IsConfiguration c) →
    members_depth (document_by_costs area levels net) ≤ 80
document_depth area levels net are = omega (arith, routers_depth (with_routers no_members net) (router_tables net are))

costs_dates : (ms : Members) → AllMembers (λ _ its. IsMetricTable its) ms → members_have_valid_dates ms ≡ true
costs_dates no_members all = refl
costs_dates (member word d ms) all =
    subst (λ (its : Data). (has_valid_dates its && members_have_valid_dates ms) ≡ true) (sym all.0.is) (costs_dates ms all.1)

routers_dates : (ms : Members) → AllMembers (λ _ its. IsMetricsTable its) ms → members_have_valid_dates ms ≡ true
routers_dates no_members all = refl
routers_dates (member word d ms) all =
    subst (λ (its : Data). (has_valid_dates its && members_have_valid_dates ms) ≡ true) (sym all.0.is)
    (rw (costs_dates all.0.interfaces all.0.metrics) (routers_dates ms all.1))

pub document_dates : (area : Word) (levels : Levels) (net : Network) → ((c : Configuration) → Contains net c → IsConfiguration c) →
    members_have_valid_dates (document_by_costs area levels net) ≡ true
document_dates area levels net are = rw (routers_dates (with_routers no_members net) (router_tables net are))
