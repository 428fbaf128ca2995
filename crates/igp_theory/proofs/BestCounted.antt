-- Over tables that are lists a router uses an entry for an address, or none that counts contains it.
use Rattle.std.proofs.lemmas.Grind.{common_steps}
use Rattle.std.proofs.Common.{◌≡◌, ◌≢◌, ℕ, ◌≤◌, inl, inr, Bool, true, false, List, [], ◌∷◌, ◌++◌, map, Contains, Option, Some}
use Rattle.std.proofs.Common.{None, arith, refl, sym, ap, ◌∙◌, subst}
use Rattle.std.specs.List.{flat_map}
use Rattle.std.proofs.lemmas.Bool.{cases_lt, cases_eq, cases_order}
use Rattle.std.proofs.lemmas.List.Elements.{Contains-append_left, Contains-append_right, Contains-append_cases}
use Rattle.std.proofs.lemmas.Option.{same_Some}
use Rattle.net_addr.specs.Addresses.{Block, ContainsAddress, first_bits}
use Rattle.net_model.specs.Configuration.{Configuration}
use Rattle.net_model.specs.Network.{Network, HasConfiguration, Connected}
use Rattle.net_model.specs.declared.interface.Interface.{Interface}
use Rattle.net_model.proofs.Members.{Contains-none, Contains-first, Contains-rest, Contains-cases, Contains-flat_map, Contains-in_flat_map, Contains-map}
use Rattle.net_model.proofs.Members.{Contains-in_map}
use Rattle.route_core.specs.declared.entry.Entry.{Entry}
use Rattle.igp_theory.specs.Forwarding.{Usable, connected, of_old, of_new, OldCounts, NewCounts, Counts, connected_counts, old_counts, new_counts, Uses}
use Rattle.igp_theory.specs.Migrations.{listed_migration}
use Rattle.igp_theory.specs.declared.phase.Phase.{Phase}
use Rattle.igp_theory.specs.declared.phase.Phase.TheVariants.{Old, Middle, New}
use Rattle.igp_theory.proofs.OrderedLists.{contains_one}

-- an entry that counts: its prefix, at its distance
pub record Counted : Type 0 where
  pub prefix : Block
  pub distance : ℕ
  pub used : Usable

-- The best of a list

pub record IsBestOf (a : ℕ) (counted : List Counted) (best : Counted) : Type 0 where
  pub among : Contains counted best
  pub contains : ContainsAddress best.prefix a
  pub longest : (c : Counted) → Contains counted c → ContainsAddress c.prefix a → c.prefix.len ≤ best.prefix.len
  pub lowest : (c : Counted) → Contains counted c → ContainsAddress c.prefix a → c.prefix.len ≡ best.prefix.len → best.distance ≤ c.distance

-- one of them is the best, or none contains the address
pub data BestOrNone (a : ℕ) (counted : List Counted) : Type 0 where
  best : (c : Counted) → IsBestOf a counted c → BestOrNone a counted
  none : ((c : Counted) → Contains counted c → ContainsAddress c.prefix a → ⊥) → BestOrNone a counted

-- one that is no worse than another, where that contains the address
record NoWorse (a : ℕ) (one other : Counted) : Type 0 where
  longer : ContainsAddress other.prefix a → other.prefix.len ≤ one.prefix.len
  closer : ContainsAddress other.prefix a → other.prefix.len ≡ one.prefix.len → one.distance ≤ other.distance

stays_best : (a : ℕ) (c : Counted) (counted : List Counted) (b : Counted) → NoWorse a b c → IsBestOf a counted b → IsBestOf a (c ∷ counted) b
stays_best a c counted b no_worse is = grind (arith, common_steps, Contains-cases, Contains-rest)

becomes_best : (a : ℕ) (c : Counted) (counted : List Counted) → ContainsAddress c.prefix a →
    ((d : Counted) → Contains counted d → NoWorse a c d) → IsBestOf a (c ∷ counted) c
becomes_best a c counted contains no_worse = record {
  among = Contains-first c counted;
  contains = contains;
  longest = λ d inside within. elim (Contains-cases c counted d inside) [
    | inl same ↦ subst (λ (x : Counted). x.prefix.len ≤ c.prefix.len) same (omega arith)
    | inr rest ↦ (no_worse d rest).longer within
  ];
  lowest = λ d inside within len. elim (Contains-cases c counted d inside) [
    | inl same ↦ subst (λ (x : Counted). c.distance ≤ x.distance) same (omega arith)
    | inr rest ↦ (no_worse d rest).closer within len
  ];
}

-- one that is no worse than the best is no worse than any
through_best : (a : ℕ) (c : Counted) (counted : List Counted) (b : Counted) → IsBestOf a counted b → b.prefix.len ≤ c.prefix.len →
    (b.prefix.len ≡ c.prefix.len → c.distance ≤ b.distance) → (d : Counted) → Contains counted d → NoWorse a c d
through_best a c counted b is longer closer d inside = grind (arith, common_steps)

better : (a : ℕ) (c : Counted) (counted : List Counted) (b : Counted) → ContainsAddress c.prefix a → IsBestOf a counted b →
    BestOrNone a (c ∷ counted)
better a c counted b contains is = elim (cases_order c.prefix.len b.prefix.len) [
  | inr (inl shorter) ↦ best b (stays_best a c counted b (record {
    longer = λ within. omega (arith, shorter);
    closer = λ within len. absurd (omega (arith, shorter, len));
  }) is)
  | inr (inr longer) ↦ best c (becomes_best a c counted contains
      (through_best a c counted b is (omega (arith, longer)) (λ len. absurd (omega (arith, longer, len)))))
  | inl same ↦ elim (cases_lt c.distance b.distance) [
    | inl closer ↦ best c (becomes_best a c counted contains (through_best a c counted b is (omega (arith, same)) (λ len. omega (arith, closer))))
    | inr farther ↦ best b (stays_best a c counted b (record { longer = λ within. omega (arith, same); closer = λ within len. farther }) is)
  ]
]

pub best_or_none : (a : ℕ) (counted : List Counted) → BestOrNone a counted
best_or_none a [] = none (λ c inside. absurd (Contains-none c inside))
best_or_none a (c ∷ counted) = elim (cases_eq (first_bits c.prefix.len a) (first_bits c.prefix.len c.prefix.base)) [
  | inl contains ↦ elim (best_or_none a counted) [
    | best b is ↦ better a c counted b contains is
    | none others ↦ best c (becomes_best a c counted contains (λ d inside. record {
      longer = λ within. absurd (others d inside within);
      closer = λ within. absurd (others d inside within);
    }))
  ]
  | inr outside ↦ elim (best_or_none a counted) [
    | best b is ↦ best b (stays_best a c counted b (record { longer = λ within. absurd (outside within); closer = λ within. absurd (outside within) }) is)
    | none others ↦ none (λ d inside within. elim (Contains-cases c counted d inside) [
      | inl same ↦ outside (subst (λ (x : Counted). ContainsAddress x.prefix a) (sym same) within)
      | inr rest ↦ others d rest within
    ])
  ]
]

-- Everything that counts at a router

abbrev counted_at : Block → ℕ → Usable → Counted
counted_at p d x = record { prefix = p; distance = d; used = x }

-- the subnet of an interface that is up
abbrev subnet_counted : Bool → Option Block → List Counted
subnet_counted true (Some p) = counted_at p 0 connected ∷ []
subnet_counted true None = []
subnet_counted false subnet = []

abbrev interface_counted : Interface → List Counted
interface_counted i = subnet_counted i.up i.subnet

-- the entries of the old table and of the new table, in a phase
abbrev old_counted : Phase → ℕ → List (Block × Entry) → List Counted
old_counted Old distance entries = map (λ (e : Block × Entry). counted_at e.0 distance (of_old e.1)) entries
old_counted Middle distance entries = map (λ (e : Block × Entry). counted_at e.0 distance (of_old e.1)) entries
old_counted New distance entries = []

abbrev new_counted : Phase → List (Block × Entry) → List Counted
new_counted Old entries = []
new_counted Middle entries = map (λ (e : Block × Entry). counted_at e.0 115 (of_new e.1)) entries
new_counted New entries = map (λ (e : Block × Entry). counted_at e.0 115 (of_new e.1)) entries

-- where a router is asked: in a network with two tables of lists, at a router with this configuration
pub record Place : Type 0 where
  pub net : Network
  pub old : ℕ → List (Block × Entry)
  pub new : ℕ → List (Block × Entry)
  pub u : ℕ
  pub config : Configuration
  pub has : HasConfiguration net u config

abbrev CountsAt : Place → Phase → Counted → Type 0
CountsAt w phase c = Counts (listed_migration w.net w.old w.new) w.u phase c.prefix c.distance c.used

subnet_sound : (w : Place) (phase : Phase) (i : Interface) (up : Bool) (subnet : Option Block) (c : Counted) → Contains w.config.interfaces i →
    i.up ≡ up → i.subnet ≡ subnet → Contains (subnet_counted up subnet) c → CountsAt w phase c
subnet_sound w phase i true (Some p) c among is_up is_subnet inside =
    let same : counted_at p 0 connected ≡ c = contains_one (counted_at p 0 connected) c inside in
    subst (CountsAt w phase) same (connected_counts (record {
      interface = i;
      up = record { config = w.config; router = w.has; among = among; up = is_up };
      subnet = is_subnet;
    }))
subnet_sound w phase i true None c among is_up is_subnet inside = absurd (Contains-none c inside)
subnet_sound w phase i false subnet c among is_up is_subnet inside = absurd (Contains-none c inside)

old_sound : (w : Place) (phase : Phase) (c : Counted) → w.config.distances.ospf ≢ 255 →
    Contains (old_counted phase w.config.distances.ospf (w.old w.u)) c → CountsAt w phase c
old_sound w Old c far inside =
    let one = Contains-map (λ (e : Block × Entry). counted_at e.0 w.config.distances.ospf (of_old e.1)) (w.old w.u) c inside in
    subst (CountsAt w Old) one.gives (old_counts tt w.config w.has refl far one.among)
old_sound w Middle c far inside =
    let one = Contains-map (λ (e : Block × Entry). counted_at e.0 w.config.distances.ospf (of_old e.1)) (w.old w.u) c inside in
    subst (CountsAt w Middle) one.gives (old_counts tt w.config w.has refl far one.among)
old_sound w New c far inside = absurd (Contains-none c inside)

new_sound : (w : Place) (phase : Phase) (c : Counted) → Contains (new_counted phase (w.new w.u)) c → CountsAt w phase c
new_sound w Old c inside = absurd (Contains-none c inside)
new_sound w Middle c inside =
    let one = Contains-map (λ (e : Block × Entry). counted_at e.0 115 (of_new e.1)) (w.new w.u) c inside in
    subst (CountsAt w Middle) one.gives (new_counts tt one.among)
new_sound w New c inside =
    let one = Contains-map (λ (e : Block × Entry). counted_at e.0 115 (of_new e.1)) (w.new w.u) c inside in
    subst (CountsAt w New) one.gives (new_counts tt one.among)

old_complete : (entries : List (Block × Entry)) (phase : Phase) (p : Block) (d : ℕ) (e : Entry) → OldCounts phase → Contains entries (p, e) →
    Contains (old_counted phase d entries) (counted_at p d (of_old e))
old_complete entries phase p d e counts inside = grind (arith, common_steps, Contains-in_map)

new_complete : (entries : List (Block × Entry)) (phase : Phase) (p : Block) (e : Entry) → NewCounts phase → Contains entries (p, e) →
    Contains (new_counted phase entries) (counted_at p 115 (of_new e))
new_complete entries phase p e counts inside = grind (arith, common_steps, Contains-in_map)

-- what counts at a router: what is connected, what the old table has and what the new one has
abbrev connected_list : Place → List Counted
connected_list w = flat_map interface_counted w.config.interfaces

abbrev old_list : Place → Phase → List Counted
old_list w phase = old_counted phase w.config.distances.ospf (w.old w.u)

abbrev new_list : Place → Phase → List Counted
new_list w phase = new_counted phase (w.new w.u)

-- a list of exactly what counts at a router in a phase
record AreCounted (w : Place) (phase : Phase) : Type 0 where
  list : List Counted
  sound : (c : Counted) → Contains list c → CountsAt w phase c
  complete : (c : Counted) → CountsAt w phase c → Contains list c

one_config : (w : Place) (c : Configuration) → HasConfiguration w.net w.u c → c ≡ w.config
one_config w c has = same_Some c w.config (sym has ∙ w.has)

subnet_complete : (up : Bool) (subnet : Option Block) (p : Block) → up ≡ true → subnet ≡ Some p →
    Contains (subnet_counted up subnet) (counted_at p 0 connected)
subnet_complete up subnet p is_up is_subnet = grind (arith, common_steps, Contains-first, same_Some)

connected_complete : (w : Place) (p : Block) → Connected w.net w.u p → Contains (connected_list w) (counted_at p 0 connected)
connected_complete w p is =
    let among : Contains w.config.interfaces is.interface =
    subst (λ (c : Configuration). Contains c.interfaces is.interface) (one_config w is.up.config is.up.router) is.up.among in
    Contains-in_flat_map interface_counted w.config.interfaces is.interface (counted_at p 0 connected) among
    (subnet_complete is.interface.up is.interface.subnet p is.up.up is.subnet)

connected_sound : (w : Place) (phase : Phase) (c : Counted) → Contains (connected_list w) c → CountsAt w phase c
connected_sound w phase c inside =
    let one = Contains-flat_map interface_counted w.config.interfaces c inside in
    subnet_sound w phase one.item one.item.up one.item.subnet c one.among refl refl one.inside

-- without the old table, where its distance is 255
counted_without : (w : Place) (phase : Phase) → w.config.distances.ospf ≡ 255 → AreCounted w phase
counted_without w phase far =
    record {
      list = connected_list w ++ new_list w phase;
      sound = λ c inside. elim (Contains-append_cases (connected_list w) (new_list w phase) c inside) [
        | inl one ↦ connected_sound w phase c one
        | inr two ↦ new_sound w phase c two
      ];
      complete = λ c counts. complete c.prefix c.distance c.used counts;
    }
  where
    complete : (p : Block) (d : ℕ) (x : Usable) → Counts (listed_migration w.net w.old w.new) w.u phase p d x →
        Contains (connected_list w ++ new_list w phase) (counted_at p d x)
    complete p d x (connected_counts is) =
        Contains-append_left (connected_list w) (new_list w phase) (counted_at p 0 connected) (connected_complete w p is)
    complete p d x (old_counts counts c has is set entry) =
        absurd (set (sym is ∙ ap (λ (y : Configuration). y.distances.ospf) (one_config w c has) ∙ far))
    complete p d x (new_counts {e = e} counts entry) =
        Contains-append_right (connected_list w) (new_list w phase) (counted_at p 115 (of_new e))
        (new_complete (w.new w.u) phase p e counts entry)

-- with it
counted_with : (w : Place) (phase : Phase) → w.config.distances.ospf ≢ 255 → AreCounted w phase
counted_with w phase set =
    record {
      list = connected_list w ++ (old_list w phase ++ new_list w phase);
      sound = λ c inside. elim (Contains-append_cases (connected_list w) (old_list w phase ++ new_list w phase) c inside) [
        | inl one ↦ connected_sound w phase c one
        | inr rest ↦ elim (Contains-append_cases (old_list w phase) (new_list w phase) c rest) [
          | inl two ↦ old_sound w phase c set two
          | inr three ↦ new_sound w phase c three
        ]
      ];
      complete = λ c counts. complete c.prefix c.distance c.used counts;
    }
  where
    complete : (p : Block) (d : ℕ) (x : Usable) → Counts (listed_migration w.net w.old w.new) w.u phase p d x →
        Contains (connected_list w ++ (old_list w phase ++ new_list w phase)) (counted_at p d x)
    complete p d x (connected_counts is) =
        Contains-append_left (connected_list w) (old_list w phase ++ new_list w phase) (counted_at p 0 connected) (connected_complete w p is)
    complete p d x (old_counts {e = e} counts c has is far entry) =
        let distance : w.config.distances.ospf ≡ d = sym (ap (λ (y : Configuration). y.distances.ospf) (one_config w c has)) ∙ is in
        Contains-append_right (connected_list w) (old_list w phase ++ new_list w phase) (counted_at p d (of_old e))
        (Contains-append_left (old_list w phase) (new_list w phase) (counted_at p d (of_old e))
        (subst (λ (k : ℕ). Contains (old_counted phase k (w.old w.u)) (counted_at p d (of_old e))) (sym distance)
        (old_complete (w.old w.u) phase p d e counts entry)))
    complete p d x (new_counts {e = e} counts entry) =
        Contains-append_right (connected_list w) (old_list w phase ++ new_list w phase) (counted_at p 115 (of_new e))
        (Contains-append_right (old_list w phase) (new_list w phase) (counted_at p 115 (of_new e))
        (new_complete (w.new w.u) phase p e counts entry))

are_counted : (w : Place) (phase : Phase) → AreCounted w phase
are_counted w phase = grind (arith, common_steps, cases_eq, counted_with, counted_without)

-- a router uses an entry for an address, or nothing that counts there contains it
pub data UsesOrNone (net : Network) (old new : ℕ → List (Block × Entry)) (u : ℕ) (phase : Phase) (a : ℕ) : Type 0 where
  one : (x : Usable) → Uses (listed_migration net old new) u phase a x → UsesOrNone net old new u phase a
  nothing : ((q : Block) (d : ℕ) (x : Usable) → Counts (listed_migration net old new) u phase q d x → ContainsAddress q a → ⊥) →
      UsesOrNone net old new u phase a

pub uses_or_none : (w : Place) (phase : Phase) (a : ℕ) → UsesOrNone w.net w.old w.new w.u phase a
uses_or_none w phase a =
    let all : AreCounted w phase = are_counted w phase in
    elim (best_or_none a all.list) [
      | best c is ↦ one c.used (record {
        prefix = c.prefix;
        distance = c.distance;
        counts = all.sound c is.among;
        contains = is.contains;
        longest = λ q d other counts inside. is.longest (counted_at q d other) (all.complete (counted_at q d other) counts) inside;
        lowest = λ q d other counts inside len. is.lowest (counted_at q d other) (all.complete (counted_at q d other) counts) inside len;
      })
      | none others ↦ nothing (λ q d x counts inside. others (counted_at q d x) (all.complete (counted_at q d x) counts) inside)
    ]
