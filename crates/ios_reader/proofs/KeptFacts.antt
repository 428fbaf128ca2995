-- What is read keeps the facts of a configuration.
use Rattle.std.proofs.lemmas.Grind.{common_steps}
use Rattle.std.proofs.Common.{◌≡◌, ◌≢◌, ℕ, ◌^◌, ◌<◌, ◌≤◌, Bool, true, false, not, ◌&&◌, ◌||◌, List, [], get_or, Option, Some, None, Result}
use Rattle.std.proofs.Common.{Ok, Err, refl, ap, map, nat_eq, nat_le, arith, inl, inr, ◌⊎◌}
use Rattle.std.specs.Prelude.{IfSome, IfOk, IsSome, All, AllPairs, is_some, unwrap_or, filter_map}
use Rattle.std.specs.Char.{is_ascii_digit}
use Rattle.std.proofs.lemmas.Bool.Decides.{nat_tests}
use Rattle.std.proofs.lemmas.Bool.{false≢true, eqb-true, eq-eqb, or_cases}
use Rattle.std.proofs.lemmas.List.Elements.{All-nil, All-map}
use Rattle.std.proofs.lemmas.List.Sums.{AllPass-from_list_all}
use Rattle.net_addr.specs.Addresses.{Block, IsBlock}
use Rattle.net_addr.proofs.Blocks.{same_parts}
use Rattle.net_model.specs.Configuration.{IsNameByte, IsRouterName, IsInterface, IsRange, IsStub, AreRangesApart, IsConfiguration}
use Rattle.net_model.specs.declared.area.Range.{Range}
use Rattle.net_model.specs.declared.area.Stub.{Stub}
use Rattle.net_model.specs.declared.interface.Interface.{Interface}
use Rattle.ios_lines.specs.Words.{Word, is_letter}
use Rattle.ios_lines.specs.Heads.{is_name_byte, is_router_name}
use Rattle.ios_lines.specs.Lookups.{last_of, replaced, first_seen, good_value, value_or}
use Rattle.ios_reader.specs.InterfaceFacts.{no_facts, noted_at, noted, facts_of}
use Rattle.ios_lines.specs.InterfaceLines.{counting}
use Rattle.ios_sections.specs.Processes.{as_hostname, as_interface, merged, interfaces_in, process_of, ospf_lines, isis_lines}
use Rattle.ios_reader.specs.Routers.{Router, router_of, range_said, is_same_range, ranges_in, stub_said, is_same_area, stub_lines_in}
use Rattle.ios_reader.specs.Routers.{default_cost_said, stub_of, stubs_in, title_said, router_metric_said, ospf_distance_said, isis_distance_said}
use Rattle.ios_reader.specs.InterfacesAsRead.{address_given, interface_area, cost_by_bandwidth}
use Rattle.ios_reader.specs.InterfacesAsRead.{default_cost, cost_given, ospf_cost, is_isis_passive, metric_by, level_metric, subnet_field}
use Rattle.ios_reader.specs.InterfacesAsRead.{cost_field, interface_with, interface_as_read}
use Rattle.ios_reader.specs.Configurations.{title_given, system_in, configuration_of}
use Rattle.ios_lines.specs.MaskedAddress.{MaskedAddress}
use Rattle.ios_lines.specs.declared.kind.ReadKind.{ReadKind}
use Rattle.ios_reader.specs.declared.facts.PlacedAddress.{PlacedAddress}
use Rattle.ios_lines.specs.declared.interface_line.InterfaceLine.{InterfaceLine}
use Rattle.ios_lines.specs.declared.interface_line.InterfaceLine.TheVariants.{Address, NoAddress, Cost, Metric, Metric1, Metric2}
use Rattle.ios_reader.specs.declared.facts.InterfaceFacts.{InterfaceFacts}
use Rattle.ios_lines.specs.declared.interface_line.InterfaceStatement.{InterfaceStatement}
use Rattle.ios_lines.specs.declared.ospf_line.StubLine.{StubLine}
use Rattle.ios_lines.specs.declared.ospf_line.OspfLine.{OspfLine}
use Rattle.ios_lines.specs.declared.ospf_line.OspfStatement.{OspfStatement}
use Rattle.ios_lines.specs.declared.title.Title.{Title}
use Rattle.ios_lines.specs.declared.isis_line.IsisLine.{IsisLine}
use Rattle.ios_lines.specs.declared.isis_line.IsisStatement.{IsisStatement}
use Rattle.ios_sections.specs.declared.section.InterfaceSection.{InterfaceSection}
use Rattle.ios_sections.specs.declared.section.Section.{Section}
use Rattle.ios_lines.proofs.NumberFacts.{le_test, and_left, and_right}
use Rattle.ios_lines.proofs.Picked.{by_if, all_taken, fold_keeps, last_keeps, pairs_map, all_replaced, pairs_replaced, names_apart}
use Rattle.ios_lines.proofs.GoodLines.{IsFrom, IsGoodAddress, prefix_good, IsGoodInterfaceLine, IsOspfDistance, IsGoodOspfLine, IsIsisDistance, IsGoodIsisLine}
use Rattle.ios_sections.proofs.GoodSections.{IsGoodStatement, IsGoodOspf, IsGoodIsis, IsGoodInterface, IsGoodSection, as_hostname_good, interfaces_good}
use Rattle.ios_sections.proofs.GoodSections.{counting_good, number_of_process, ospf_good, isis_good}

-- ---- the name ----

is_from_tests : (low high b : ℕ) → (nat_le low b && nat_le b high) ≡ true → (low ≤ b) × (b ≤ high)
is_from_tests low high b h = (le_test low b (and_left (nat_le low b) (nat_le b high) h), le_test b high (and_right (nat_le low b) (nat_le b high) h))

digit_from : (b : ℕ) → is_ascii_digit b ≡ true → (48 ≤ b) × (b ≤ 57)
digit_from b h = grind (arith, nat_tests)

name_byte : (b : ℕ) → is_name_byte b ≡ true → IsNameByte b
name_byte b h = four (or_cases (is_letter b || is_ascii_digit b || nat_eq b 45 || nat_eq b 95) (nat_eq b 46) h)
  where
    one : (is_letter b ≡ true) → IsNameByte b
    one e = elim (or_cases (nat_le 65 b && nat_le b 90) (nat_le 97 b && nat_le b 122) e) as
        (λ _. IsNameByte b) [ inl f ↦ inr (inl (is_from_tests 65 90 b f)) | inr f ↦ inr (inr (inl (is_from_tests 97 122 b f))) ]

    two : (is_letter b ≡ true) ⊎ (is_ascii_digit b ≡ true) → IsNameByte b
    two (inl e) = one e
    two (inr e) = inl (digit_from b e)

    three : ((is_letter b || is_ascii_digit b) ≡ true) ⊎ (nat_eq b 45 ≡ true) → IsNameByte b
    three (inl e) = two (or_cases (is_letter b) (is_ascii_digit b) e)
    three (inr e) = inr (inr (inr (inl (eqb-true b 45 e))))

    more : ((is_letter b || is_ascii_digit b || nat_eq b 45) ≡ true) ⊎ (nat_eq b 95 ≡ true) → IsNameByte b
    more (inl e) = three (or_cases (is_letter b || is_ascii_digit b) (nat_eq b 45) e)
    more (inr e) = inr (inr (inr (inr (inl (eqb-true b 95 e)))))

    four : ((is_letter b || is_ascii_digit b || nat_eq b 45 || nat_eq b 95) ≡ true) ⊎ (nat_eq b 46 ≡ true) → IsNameByte b
    four (inl e) = more (or_cases (is_letter b || is_ascii_digit b || nat_eq b 45) (nat_eq b 95) e)
    four (inr e) = inr (inr (inr (inr (inr (eqb-true b 46 e)))))

router_name : (name : Word) → is_router_name name ≡ true → IsRouterName name
router_name name h = grind (arith, common_steps, AllPass-from_list_all, and_left, and_right, le_test, name_byte)

there : {A : Type 0} (P : A → Type 0) (o : Option A) (d : A) → is_some o ≡ true → IfSome o P → P (unwrap_or o d)
there P o d e h = grind (arith, common_steps, false≢true)

or_default : {A : Type 0} (P : A → Type 0) (o : Option A) (d : A) → P d → IfSome o P → P (unwrap_or o d)
or_default P None d e h = e
or_default P (Some a) d e h = h

-- ---- an interface ----

abbrev IsGoodValue : ℕ → ℕ → Result ℕ ReadKind → Type 0
IsGoodValue least most r = IfOk r (IsFrom least most)

abbrev IsGoodPlaced : Option PlacedAddress → Type 0
IsGoodPlaced o = IfSome o (λ (p : PlacedAddress). IfOk p.address IsGoodAddress)

-- what is said of an interface is in its ranges
record AreGoodFacts (facts : InterfaceFacts) : Type 0 where
  address : IfSome facts.address IsGoodPlaced
  cost : IfSome facts.cost (IsGoodValue 1 65535)
  metric : IfSome facts.metric (IsGoodValue 1 16777214)
  metric1 : IfSome facts.metric1 (IsGoodValue 1 16777214)
  metric2 : IfSome facts.metric2 (IsGoodValue 1 16777214)

noted_good : (line : ℕ) (facts : InterfaceFacts) (says : InterfaceLine) → AreGoodFacts facts → IsGoodInterfaceLine says →
    AreGoodFacts (noted_at line facts says)
noted_good line facts (Address r) g h = record { address = h; cost = g.cost; metric = g.metric; metric1 = g.metric1; metric2 = g.metric2 }
noted_good line facts NoAddress g h = record { address = tt; cost = g.cost; metric = g.metric; metric1 = g.metric1; metric2 = g.metric2 }
noted_good line facts (Cost r) g h = record { address = g.address; cost = h; metric = g.metric; metric1 = g.metric1; metric2 = g.metric2 }
noted_good line facts (Metric r) g h = record { address = g.address; cost = g.cost; metric = h; metric1 = g.metric1; metric2 = g.metric2 }
noted_good line facts (Metric1 r) g h = record { address = g.address; cost = g.cost; metric = g.metric; metric1 = h; metric2 = g.metric2 }
noted_good line facts (Metric2 r) g h = record { address = g.address; cost = g.cost; metric = g.metric; metric1 = g.metric1; metric2 = h }
noted_good line facts _ g h = record { address = g.address; cost = g.cost; metric = g.metric; metric1 = g.metric1; metric2 = g.metric2 }

facts_good : (lines : List InterfaceStatement) → All IsGoodStatement lines → AreGoodFacts (facts_of lines)
facts_good lines good =
    fold_keeps AreGoodFacts IsGoodStatement noted (λ f s g h. noted_good s.line f s.says g h) no_facts lines
    (record { address = tt; cost = tt; metric = tt; metric1 = tt; metric2 = tt }) good

given_good : (o : Option (Option PlacedAddress)) → IfSome o IsGoodPlaced → IfSome (address_given o) IsGoodAddress
given_good None h = tt
given_good (Some None) h = tt
given_good (Some (Some placed)) h = value (placed.address) h
  where
    value : (r : Result MaskedAddress ReadKind) → IfOk r IsGoodAddress → IfSome (good_value (Some r)) IsGoodAddress
    value (Ok a) g = g
    value (Err kind) g = tt

subnet_good : (o : Option MaskedAddress) → IfSome o IsGoodAddress → IfSome (subnet_field o) IsBlock
subnet_good None h = tt
subnet_good (Some a) h = prefix_good a.address a.len h.below h.short

subnet_there : (o : Option MaskedAddress) → is_some o ≡ true → IsSome (subnet_field o)
subnet_there o h = grind (arith, common_steps, false≢true)

abbrev IsCost : ℕ → Type 0
IsCost = IsFrom 1 65535

one_cost : IsCost 1
one_cost = record { low = omega arith; high = omega arith }

bandwidth_cost : (reference : ℕ) (own : Option (Result ℕ ReadKind)) (kind : Option ℕ) → IfSome (cost_by_bandwidth reference own kind) IsCost
bandwidth_cost reference own kind = grind arith

otherwise_cost : (reference : ℕ) (name : Word) (bandwidth : Option (Result ℕ ReadKind)) → IfSome (default_cost reference name bandwidth) IsCost
otherwise_cost reference name bandwidth = grind (arith, common_steps, bandwidth_cost, by_if, one_cost)

given_cost : (own : Option (Result ℕ ReadKind)) (otherwise : Option ℕ) → IfSome own (IsGoodValue 1 65535) → IfSome otherwise IsCost →
    IfSome (cost_given own otherwise) IsCost
given_cost own otherwise h i = grind arith

field_cost : (area cost : Option ℕ) → IfSome cost IsCost → IsCost (cost_field area cost)
field_cost area cost h = grind (arith, common_steps, cost, one_cost, or_default)

abbrev IsMetric : ℕ → Type 0
IsMetric = IsFrom 1 16777214

ten_metric : IsMetric 10
ten_metric = record { low = omega arith; high = omega arith }

value_metric : (o : Option (Result ℕ ReadKind)) → IfSome o (IsGoodValue 1 16777214) → IfSome (good_value o) IsMetric
value_metric o h = grind arith

by_metric : (own both : Option ℕ) (router : ℕ) → IfSome own IsMetric → IfSome both IsMetric → IsMetric router → IsMetric (metric_by own both router)
by_metric own both router h i j = grind (arith, common_steps, or_default)

pair : (least most n : ℕ) → IsFrom least most n → (least ≤ n) × (n ≤ most)
pair least most n h = (h.low, h.high)

module _ (router : Router) (name : Word) (facts : InterfaceFacts) (good : AreGoodFacts facts) (metric : IsMetric router.metric) where
  own_metric : (own : Option (Result ℕ ReadKind)) → IfSome own (IsGoodValue 1 16777214) →
      IsMetric (level_metric router.metric (is_isis_passive router name) facts own)
  own_metric own h = grind (arith, common_steps, by_if, by_metric, metric, ten_metric, value_metric)

  interface_good : IsInterface (interface_with router name facts)
  interface_good = record {
    cost = pair 1 65535 _ (field_cost (interface_area router facts) (ospf_cost router name facts)
        (given_cost facts.cost (default_cost router.reference name facts.bandwidth) good.cost (otherwise_cost router.reference name facts.bandwidth)));
    metric1 = pair 1 16777214 _ (own_metric facts.metric1 good.metric1);
    metric2 = pair 1 16777214 _ (own_metric facts.metric2 good.metric2);
    prefix = subnet_good (address_given facts.address) (given_good facts.address good.address);
    subnet = λ up. subnet_there (address_given facts.address) (and_left (is_some (address_given facts.address)) (not (unwrap_or facts.shut false)) up);
  }

interfaces_kept : (router : Router) (sections : List InterfaceSection) → IsMetric router.metric → All IsGoodInterface sections →
    All IsInterface (map (interface_as_read router) sections)
interfaces_kept router sections metric good =
    All-map IsInterface (interface_as_read router) sections
    (λ k d lt. interface_good router (get_or sections k d).name (facts_of (counting (get_or sections k d).lines))
    (facts_good (counting (get_or sections k d).lines) (counting_good (get_or sections k d).lines (good k d lt))) metric)

-- two interfaces have two names
apart_interfaces : (router : Router) (parts : List InterfaceSection) (names : List Word) → AllPairs (λ (n m : Word). n ≢ m) names →
    AllPairs (λ (i j : Interface). i.name ≢ j.name) (map (interface_as_read router) (map (merged parts) names))
apart_interfaces router parts names h =
    pairs_map (λ (i j : Interface). i.name ≢ j.name) (interface_as_read router) (map (merged parts) names)
    (pairs_map (λ (s t : InterfaceSection). s.name ≢ t.name) (merged parts) names h)

-- ---- the OSPF process ----

range_in : (s : OspfLine) → IsGoodOspfLine s → IfSome (range_said s) IsRange
range_in s h = grind arith

stub_in : (s : OspfLine) → IsGoodOspfLine s → IfSome (stub_said s) (λ (t : StubLine). 1 ≤ t.area)
stub_in s h = grind arith

default_in : (area : ℕ) (s : OspfLine) → IsGoodOspfLine s → IfSome (default_cost_said area s) (λ n. n ≤ 16777214)
default_in area s h = grind arith

distance_in : (s : OspfLine) → IsGoodOspfLine s → IfSome (ospf_distance_said s) (λ (r : Result ℕ ReadKind). IfOk r IsOspfDistance)
distance_in s h = grind arith

value_kept : {A : Type 0} (P : A → Type 0) (o : Option (Result A ReadKind)) (d : A) → P d → IfSome o (λ (r : Result A ReadKind). IfOk r P) → P (value_or o d)
value_kept P o d h i = grind arith

ranges_kept : (lines : List OspfStatement) → All IsGoodOspf lines → All IsRange (ranges_in lines)
ranges_kept lines good =
    fold_keeps (λ (w : List Range). All IsRange w) IsRange (replaced is_same_range) (λ xs x h p. all_replaced IsRange is_same_range xs x h p)
    [] (filter_map (λ (s : OspfStatement). range_said s.says) lines) (All-nil IsRange)
    (all_taken (λ (s : OspfStatement). range_said s.says) IsGoodOspf IsRange (λ s g. range_in s.says g) lines good)

same_range : (r s : Range) → is_same_range r s ≡ true → (r.area ≡ s.area) × (r.dest ≡ s.dest)
same_range r s e = grind (arith, common_steps, and_left, and_right, eqb-true, same_parts)

range_same : (r s : Range) → (r.area ≡ s.area) × (r.dest ≡ s.dest) → is_same_range r s ≡ true
range_same r s h = all_three (eq-eqb r.area s.area h.0) (eq-eqb r.dest.base s.dest.base (ap (λ (b : Block). b.base) h.1))
    (eq-eqb r.dest.len s.dest.len (ap (λ (b : Block). b.len) h.1))
  where
    all_three : {a b c : Bool} → a ≡ true → b ≡ true → c ≡ true → (a && b && c) ≡ true
    all_three e f g = rw (e, f, g) refl

ranges_takes : (y x z : Range) → is_same_range y x ≡ true → AreRangesApart y z → AreRangesApart x z
ranges_takes y x z e apart h = grind (arith, common_steps, same_range)

ranges_new : (y x : Range) → is_same_range y x ≡ false → AreRangesApart y x
ranges_new y x e h = let t : is_same_range y x ≡ true = range_same y x h in let f : false ≡ true = cc in false≢true f

ranges_apart : (lines : List OspfStatement) → AllPairs AreRangesApart (ranges_in lines)
ranges_apart lines =
    fold_keeps (λ (w : List Range). AllPairs AreRangesApart w) (λ (r : Range). Unit {0}) (replaced is_same_range)
    (λ xs x h p. pairs_replaced AreRangesApart is_same_range ranges_takes ranges_new xs x h)
    [] (filter_map (λ (s : OspfStatement). range_said s.says) lines) (λ i j d p q. absurd (omega arith)) (λ k d lt. tt)

abbrev AreStubsApart : StubLine → StubLine → Type 0
AreStubsApart s t = s.area ≢ t.area

stubs_takes : (y x z : StubLine) → is_same_area y x ≡ true → AreStubsApart y z → AreStubsApart x z
stubs_takes y x z e apart h = let same : y.area ≡ x.area = eqb-true y.area x.area e in apart cc

stubs_new : (y x : StubLine) → is_same_area y x ≡ false → AreStubsApart y x
stubs_new y x e h = let t : is_same_area y x ≡ true = eq-eqb y.area x.area h in let f : false ≡ true = cc in false≢true f

stub_lines_apart : (lines : List OspfStatement) → AllPairs AreStubsApart (stub_lines_in lines)
stub_lines_apart lines =
    fold_keeps (λ (w : List StubLine). AllPairs AreStubsApart w) (λ (r : StubLine). Unit {0}) (replaced is_same_area)
    (λ xs x h p. pairs_replaced AreStubsApart is_same_area stubs_takes stubs_new xs x h)
    [] (filter_map (λ (s : OspfStatement). stub_said s.says) lines) (λ i j d p q. absurd (omega arith)) (λ k d lt. tt)

stub_lines_kept : (lines : List OspfStatement) → All IsGoodOspf lines → All (λ (t : StubLine). 1 ≤ t.area) (stub_lines_in lines)
stub_lines_kept lines good =
    fold_keeps (λ (w : List StubLine). All (λ (t : StubLine). 1 ≤ t.area) w) (λ (t : StubLine). 1 ≤ t.area) (replaced is_same_area)
    (λ xs x h p. all_replaced (λ (t : StubLine). 1 ≤ t.area) is_same_area xs x h p)
    [] (filter_map (λ (s : OspfStatement). stub_said s.says) lines) (All-nil (λ (t : StubLine). 1 ≤ t.area))
    (all_taken (λ (s : OspfStatement). stub_said s.says) IsGoodOspf (λ (t : StubLine). 1 ≤ t.area) (λ s g. stub_in s.says g) lines good)

stubs_kept : (lines : List OspfStatement) → All IsGoodOspf lines → All IsStub (stubs_in lines)
stubs_kept lines good =
    All-map IsStub (stub_of lines) (stub_lines_in lines)
    (λ k d lt. record {
      area = stub_lines_kept lines good k d lt;
      default_cost = or_default (λ (n : ℕ). n ≤ 16777214) (last_of
          (λ (s : OspfStatement). default_cost_said (get_or (stub_lines_in lines) k d).area s.says) lines) 1 (omega arith)
          (last_keeps (λ (s : OspfStatement). default_cost_said (get_or (stub_lines_in lines) k d).area s.says) IsGoodOspf (λ (n : ℕ). n ≤ 16777214)
          (λ s g. default_in (get_or (stub_lines_in lines) k d).area s.says g) lines good);
    })

-- ---- the IS-IS process ----

title_in : (s : IsisLine) → IsGoodIsisLine s → IfSome (title_said s) (λ (o : Option Title). IfSome o (λ (t : Title). t.system < 2 ^ 48))
title_in s h = grind arith

router_metric_in : (s : IsisLine) → IsGoodIsisLine s → IfSome (router_metric_said s) (IsGoodValue 1 16777214)
router_metric_in s h = grind arith

isis_distance_in : (s : IsisLine) → IsGoodIsisLine s → IfSome (isis_distance_said s) (λ (r : Result ℕ ReadKind). IfOk r IsIsisDistance)
isis_distance_in s h = grind arith

system_kept : (o : Option (Option Title)) → IfSome o (λ (p : Option Title). IfSome p (λ (t : Title). t.system < 2 ^ 48)) → system_in (title_given o) < 2 ^ 48
system_kept o h = grind arith

process_kept : (o : Option ℕ) → IfSome o (IsFrom 1 65535) → IfSome o (λ p. (1 ≤ p) × (p ≤ 65535))
process_kept o h = grind (arith, common_steps)

-- the configuration of sections that name the router keeps the facts of a configuration
pub configuration_kept : (sections : List Section) → All IsGoodSection sections → is_some (last_of as_hostname sections) ≡ true →
    IsConfiguration (configuration_of sections)
configuration_kept sections good named =
    let ospf : All IsGoodOspf (ospf_lines sections) = ospf_good sections good in
    let isis : All IsGoodIsis (isis_lines sections) = isis_good sections good in
    let metric : IsMetric (router_of sections).metric = value_kept IsMetric
    (last_of (λ (s : IsisStatement). router_metric_said s.says) (isis_lines sections)) 10 ten_metric
    (last_keeps (λ (s : IsisStatement). router_metric_said s.says) IsGoodIsis (IsGoodValue 1 16777214) (λ s g. router_metric_in s.says g)
    (isis_lines sections) isis) in
    let distance : IsOspfDistance (value_or (last_of (λ (s : OspfStatement). ospf_distance_said s.says) (ospf_lines sections)) 110) =
    value_kept IsOspfDistance (last_of (λ (s : OspfStatement). ospf_distance_said s.says) (ospf_lines sections)) 110
    (record { some = omega arith; most = omega arith; apart = λ e. omega arith })
    (last_keeps (λ (s : OspfStatement). ospf_distance_said s.says) IsGoodOspf (λ (r : Result ℕ ReadKind). IfOk r IsOspfDistance)
    (λ s g. distance_in s.says g) (ospf_lines sections) ospf) in
    record {
      name = router_name (unwrap_or (last_of as_hostname sections) [])
          (there (λ (name : Word). is_router_name name ≡ true) (last_of as_hostname sections) [] named
          (last_keeps as_hostname IsGoodSection (λ (name : Word). is_router_name name ≡ true) as_hostname_good sections good));
      interfaces = interfaces_kept (router_of sections) (interfaces_in sections) metric (interfaces_good sections good);
      interface_names = apart_interfaces (router_of sections) (filter_map as_interface sections)
          (first_seen (map (λ (s : InterfaceSection). s.name) (filter_map as_interface sections)))
          (names_apart (map (λ (s : InterfaceSection). s.name) (filter_map as_interface sections)));
      process = process_kept (process_of sections) (number_of_process sections good);
      system = system_kept (last_of (λ (s : IsisStatement). title_said s.says) (isis_lines sections))
          (last_keeps (λ (s : IsisStatement). title_said s.says) IsGoodIsis (λ (o : Option Title). IfSome o (λ (t : Title). t.system < 2 ^ 48))
          (λ s g. title_in s.says g) (isis_lines sections) isis);
      ranges = ranges_kept (ospf_lines sections) ospf;
      ranges_apart = ranges_apart (ospf_lines sections);
      stubs = stubs_kept (ospf_lines sections) ospf;
      stubs_apart = pairs_map (λ (s t : Stub). s.area ≢ t.area) (stub_of (ospf_lines sections)) (stub_lines_in (ospf_lines sections))
          (stub_lines_apart (ospf_lines sections));
      distances = record {
        some = distance.some;
        most = distance.most;
        apart = distance.apart;
        isis = value_kept IsIsisDistance (last_of (λ (s : IsisStatement). isis_distance_said s.says) (isis_lines sections)) 115 (inl refl)
            (last_keeps (λ (s : IsisStatement). isis_distance_said s.says) IsGoodIsis (λ (r : Result ℕ ReadKind). IfOk r IsIsisDistance)
            (λ s g. isis_distance_in s.says g) (isis_lines sections) isis);
      };
    }
