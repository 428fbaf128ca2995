use Rattle.std.proofs.lemmas.Grind.{common_steps}
use Rattle.std.proofs.Common.{◌≡◌, ◌∙◌, ℕ, List, Option, arith, length, ap, subst, sym}
use Rattle.std.proofs.lemmas.List.{length-map}
use Rattle.net_addr.specs.Addresses.{Block}
use Rattle.net_model.specs.Network.{Network}
use Rattle.rib_mix.specs.Rows.{AreAllSubnets, AreRows, MixedParts}
use Rattle.rib_mix.specs.declared.sorts.Sorts.{Sorts}
use Rattle.rib_mix.specs.steps.Homes.{AreNetHomes, ArePrefixHomes}
use Rattle.rib_mix.specs.steps.Likeness.{AreLike, PlacedPrefixes}
use Rattle.rib_mix.specs.steps.Sites.{AllOccur}
use Rattle.rib_mix.specs.steps.Sorts.{AreSorts, sort_at}
use Rattle.rib_mix.specs.declared.both_tables.BothTables.{BothTables}
use Rattle.rib_mix.proofs.EarlierLaws.{IsSorted, earlier_alike}
use Rattle.rib_mix.proofs.HomeLaws.{net_homes}
use Rattle.rib_mix.proofs.MixedLaws.{all_occur, forwarding_made}
use Rattle.rib_mix.proofs.mixed.Mixed.build.Goals as goal

pub columns_of-requires-clause-occur : goal.columns_of-requires-clause-occur
columns_of-requires-clause-occur g c =
    subst (λ (ts : List BothTables). AllOccur c.in_ok-atoms.atoms.prefixes (record { net = c.args.net.now; tables = ts }))
    (sym c.as_slice-6.ensures.value)
    (all_occur _ _ _ _ (record { net = c.args.net.now; tables = c.in_ok-tables.tables.items }) c.in_ok-atoms.atoms
    (c.requires.new_routers ∙ sym c.requires.old_routers) c.in_ok-atoms.ensures c.in_ok-tables.ensures.tables)

-- the homes that are read of the connected prefixes are those in the network
read_homes : (net : Network) (prefixes : List Block) (subnets shown : List (List Block)) (homes : List (List ℕ)) → shown ≡ subnets
    → AreAllSubnets net subnets → ArePrefixHomes prefixes shown homes → AreNetHomes net prefixes homes
read_homes net prefixes subnets shown homes same all are =
    net_homes net prefixes subnets homes all (subst (λ (ss : List (List Block)). ArePrefixHomes prefixes ss homes) same are)

-- sorts by the tables that are shown are sorts by the tables
read_sorts : (all : PlacedPrefixes) (tables shown : List BothTables) (parents : List (Option ℕ)) (sorts : Sorts) → shown ≡ tables
    → AreSorts (AreLike all shown) parents (length parents) sorts → AreSorts (AreLike all tables) parents (length parents) sorts
read_sorts all tables shown parents sorts same are =
    subst (λ (ts : List BothTables). AreSorts (AreLike all ts) parents (length parents) sorts) same are

pub columns_of-requires-clause-homes : goal.columns_of-requires-clause-homes
columns_of-requires-clause-homes g c =
    subst (AreNetHomes c.args.net.now c.in_ok-atoms.atoms.prefixes) (sym c.as_slice-4.ensures.value)
    (read_homes c.args.net.now c.in_ok-atoms.atoms.prefixes c.in_ok-subnets.subnets.items c.as_slice-2.result.now
    c.in_ok-sorted.sorted.homes.items c.as_slice-2.ensures.value c.in_ok-subnets.ensures c.in_ok-sorted.ensures.homes)

pub columns_of-requires-clause-sorts : goal.columns_of-requires-clause-sorts
columns_of-requires-clause-sorts g c = grind (arith, common_steps, read_sorts)

pub invariant_of-result : goal.invariant_of-result
invariant_of-result g c =
    let kept : MixedParts = record {
      ground = record { net = c.args.net.now; tables = c.in_ok-tables.tables.items };
      classes = c.in_ok-atoms.atoms;
      subnets = c.in_ok-subnets.subnets.items;
      rows = c.in_ok-columns.columns;
      sorts = c.in_ok-class_sorts.class_sorts.items;
      earlier = c.in_ok-earlier.earlier.items;
    } in
    let classing = c.in_ok-atoms.ensures.classing in
    let rows : AreRows kept.ground kept.classes.samples kept.sorts kept.rows =
    subst (λ (ts : List BothTables). AreRows
    (record { net = c.args.net.now; tables = ts }) kept.classes.samples kept.sorts kept.rows)
    c.as_slice-6.ensures.value
    (subst (λ (ss : List (Option ℕ)). AreRows
    (record { net = c.args.net.now; tables = c.as_slice-6.result.now }) kept.classes.samples ss kept.rows)
    (sym c.in_ok-class_sorts.ensures) c.in_ok-columns.ensures) in
    let long : length kept.sorts ≡ length kept.classes.samples =
    omega (
      arith,
      ap length c.in_ok-class_sorts.ensures,
      length-map kept.classes.tops
          (sort_at c.in_ok-sorted.sorted.sorts.of_places.items),
      classing.tops.count,
    ) in
    let forwarding = forwarding_made _ _ _ _ kept c.requires.old_routers c.requires.new_routers c.in_ok-atoms.ensures
    c.in_ok-tables.ensures.tables
    c.in_ok-subnets.ensures long rows in
    let all : PlacedPrefixes = record { spots = c.in_ok-spots.spots; homes = c.in_ok-sorted.sorted.homes.items } in
    let sorted : IsSorted _ _ kept all c.in_ok-sorted.sorted.sorts = record {
      forwarding = forwarding;
      sorts_are = c.in_ok-class_sorts.ensures;
      homes = read_homes c.args.net.now kept.classes.prefixes kept.subnets c.as_slice-2.result.now all.homes
          c.as_slice-2.ensures.value c.in_ok-subnets.ensures c.in_ok-sorted.ensures.homes;
      like = read_sorts all kept.ground.tables c.as_slice-3.result.now kept.classes.parents c.in_ok-sorted.sorted.sorts
          c.as_slice-3.ensures.value c.in_ok-sorted.ensures.sorts;
    } in
    record {
      forwarding = forwarding;
      earlier_are = earlier_alike _ _ kept all c.in_ok-sorted.sorted.sorts sorted c.in_ok-earlier.ensures;
    }
