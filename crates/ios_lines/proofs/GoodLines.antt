-- The values that lines give are in their ranges.
use Rattle.std.proofs.lemmas.Grind.{common_steps}
use Rattle.std.proofs.Common.{◌≡◌, ◌≢◌, ℕ, ◌-◌, ◌^◌, ◌<◌, ◌≤◌, Bool, true, false, ◌&&◌, ◌||◌, List, length, get_or, Option, Some, None, Result, Ok}
use Rattle.std.proofs.Common.{Err, refl, cond, nat_eq, nat_le, nat_lt, arith, ◌⊎◌, inl, inr}
use Rattle.std.specs.Prelude.{IfSome, IfOk, codes}
use Rattle.std.specs.List.{list_all}
use Rattle.std.specs.Char.{is_ascii_digit}
use Rattle.std.proofs.lemmas.Bool.Decides.{nat_tests}
use Rattle.net_addr.specs.Numerals.{decimal_value}
use Rattle.net_addr.specs.Addresses.{Block, IsBlock}
use Rattle.net_addr.specs.AddressWords.{IsAddressWord}
use Rattle.net_addr.proofs.Blocks.{IsBlock-around}
use Rattle.net_model.specs.Configuration.{IsRange}
use Rattle.ios_lines.specs.Words.{Word, word_at, says, begins_with_two, number_of, at_least, number_from, address_of}
use Rattle.ios_lines.specs.Words.{area_of}
use Rattle.ios_lines.specs.InterfaceLines.{masked_address, address_line, process_area, ospf_of_interface, ip_of_interface, metric_line, isis_of_interface}
use Rattle.ios_lines.specs.InterfaceLines.{bandwidth_line, plain_of_interface, interface_line}
use Rattle.ios_lines.specs.OspfLines.{stub_values, default_cost_values, prefix_of, optional_cost, range_cost, range_prefix}
use Rattle.ios_lines.specs.OspfLines.{range_values, range_line, is_unsupported_area, area_line as ospf_area_line, apart_distance, ospf_distance, ospf_passive}
use Rattle.ios_lines.specs.OspfLines.{plain_of_ospf, ospf_line}
use Rattle.ios_lines.specs.IsisLines.{hex_value, group_value, system_value, system_part, is_title, title_of, isis_distance, isis_passive, is_leak}
use Rattle.ios_lines.specs.IsisLines.{is_unsupported_isis, plain_of_isis, isis_line}
use Rattle.ios_lines.specs.MaskedAddress.{MaskedAddress}
use Rattle.ios_lines.specs.declared.kind.ReadKind.{ReadKind}
use Rattle.ios_lines.specs.declared.kind.ReadKind.TheVariants.{BadCost, BadArea, BadMetric, BadDistance, DistanceClash}
use Rattle.ios_lines.specs.declared.interface_line.ProcessArea.{ProcessArea}
use Rattle.ios_lines.specs.declared.interface_line.InterfaceLine.{InterfaceLine}
use Rattle.ios_lines.specs.declared.interface_line.InterfaceLine.TheVariants.{Address, Cost, Area, Metric, Metric1, Metric2}
use Rattle.ios_lines.specs.declared.ospf_line.StubLine.{StubLine}
use Rattle.ios_lines.specs.declared.ospf_line.DefaultCost.{DefaultCost as AreaCost}
use Rattle.ios_lines.specs.declared.ospf_line.OspfLine.{OspfLine}
use Rattle.ios_lines.specs.declared.ospf_line.OspfLine.TheVariants.{Stub, DefaultCost, Range as RangeLine, Distance}
use Rattle.ios_lines.specs.declared.title.Title.{Title}
use Rattle.ios_lines.specs.declared.isis_line.IsisLine.{IsisLine}
use Rattle.ios_lines.specs.declared.isis_line.IsisLine.TheVariants.{Net, Metric as IsisMetric, Distance as IsisDistance}
use Rattle.ios_lines.proofs.Picked.{by_if, by_some}
use Rattle.ios_lines.proofs.NumberFacts.{le_test, number_stands}
use Rattle.ios_lines.proofs.AddressFacts.{address_back}
use Rattle.ios_lines.proofs.MaskWordFacts.{mask_within}

-- a number from one bound to the other
pub record IsFrom (least most n : ℕ) : Type 0 where
  pub low : least ≤ n
  pub high : n ≤ most

-- ---- words ----

number_within : (most : ℕ) (word : Word) → IfSome (number_of most word) (λ n. n ≤ most)
number_within most word = choice (nat_lt 0 (length word) && list_all is_ascii_digit word && nat_le (decimal_value word) most) refl
  where
    choice : (t : Bool) → (nat_lt 0 (length word) && list_all is_ascii_digit word && nat_le (decimal_value word) most) ≡ t →
        IfSome (cond t (Some (decimal_value word)) None) (λ n. n ≤ most)
    choice true e = (number_stands most word e).within
    choice false e = tt

at_least_from : (least most : ℕ) (kind : ReadKind) (o : Option ℕ) → IfSome o (λ n. n ≤ most) → IfOk (at_least least kind o) (IsFrom least most)
at_least_from least most kind None h = tt
at_least_from least most kind (Some n) h = choice (nat_le least n) refl
  where
    choice : (t : Bool) → nat_le least n ≡ t → IfOk (cond t (Ok n) (Err kind)) (IsFrom least most)
    choice true e = record { low = le_test least n e; high = h }
    choice false e = tt

pub number_good : (least most : ℕ) (kind : ReadKind) (word : Word) → IfOk (number_from least most kind word) (IsFrom least most)
number_good least most kind word = at_least_from least most kind (number_of most word) (number_within most word)

small_address : (word : Word) (a : ℕ) → IsAddressWord word a → a < 2 ^ 32
small_address word a h = grind (arith, common_steps)

address_within : (word : Word) → IfSome (address_of word) (λ a. a < 2 ^ 32)
address_within word = by_some (λ (a : ℕ). a < 2 ^ 32) (address_of word) (λ a e. small_address word a (address_back word a e))

pub prefix_good : (a len : ℕ) → a < 2 ^ 32 → len ≤ 32 → IsBlock (prefix_of a len)
prefix_good a len below short = IsBlock-around a (2 ^ (32 - len)) len short below refl

-- ---- lines of an interface ----

-- an address below 2^32, with a mask of at most 32 ones
pub record IsGoodAddress (a : MaskedAddress) : Type 0 where
  pub below : a.address < 2 ^ 32
  pub short : a.len ≤ 32

-- the values of a line are in their ranges
abbrev pub IsGoodInterfaceLine : InterfaceLine → Type 0
IsGoodInterfaceLine (Address r) = IfOk r IsGoodAddress
IsGoodInterfaceLine (Cost r) = IfOk r (IsFrom 1 65535)
IsGoodInterfaceLine (Area r) = IfOk r (λ (a : ProcessArea). IsFrom 1 65535 a.process)
IsGoodInterfaceLine (Metric r) = IfOk r (IsFrom 1 16777214)
IsGoodInterfaceLine (Metric1 r) = IfOk r (IsFrom 1 16777214)
IsGoodInterfaceLine (Metric2 r) = IfOk r (IsFrom 1 16777214)
IsGoodInterfaceLine _ = Unit {0}

masked_good : (a len : Option ℕ) (secondary : Bool) → IfSome a (λ n. n < 2 ^ 32) → IfSome len (λ n. n ≤ 32) →
    IfOk (masked_address a len secondary) IsGoodAddress
masked_good a len secondary h i = grind arith

address_good : (words : List Word) → IfOk (address_line words) IsGoodAddress
address_good words = grind (arith, common_steps, address_within, by_if, mask_within, masked_good)

area_good : (area : Option ℕ) (process : Result ℕ ReadKind) → IfOk process (IsFrom 1 65535) →
    IfOk (process_area area process) (λ (a : ProcessArea). IsFrom 1 65535 a.process)
area_good area process h = grind arith

ospf_good : (words : List Word) → IsGoodInterfaceLine (ospf_of_interface words)
ospf_good words = grind (arith, common_steps, area_good, by_if, number_good)

ip_good : (words : List Word) → IsGoodInterfaceLine (ip_of_interface words)
ip_good words = grind (arith, common_steps, address_good, by_if, ospf_good)

metric_good : (words : List Word) → IsGoodInterfaceLine (metric_line words)
metric_good words = grind (arith, common_steps, by_if, number_good)

isis_good : (words : List Word) → IsGoodInterfaceLine (isis_of_interface words)
isis_good words = grind (arith, common_steps, by_if, metric_good)

bandwidth_good : (word : Word) → IsGoodInterfaceLine (bandwidth_line word)
bandwidth_good word = by_if IsGoodInterfaceLine (is_ascii_digit (get_or word 0 0)) _ _ tt tt

plain_good : (words : List Word) → IsGoodInterfaceLine (plain_of_interface words)
plain_good words = grind (arith, common_steps, bandwidth_good, by_if)

pub interface_line_good : (words : List Word) → IsGoodInterfaceLine (interface_line words)
interface_line_good words =
    by_if IsGoodInterfaceLine (says words 0 (codes "ip")) _ _ (ip_good words)
    (by_if IsGoodInterfaceLine (says words 0 (codes "isis")) _ _ (isis_good words) (plain_good words))

-- ---- lines of the OSPF process ----

-- a distance of OSPF: from 1 to 255, and not 115
pub record IsOspfDistance (n : ℕ) : Type 0 where
  pub some : 1 ≤ n
  pub most : n ≤ 255
  pub apart : n ≢ 115

-- the values of a line are in their ranges
abbrev pub IsGoodOspfLine : OspfLine → Type 0
IsGoodOspfLine (RangeLine r) = IfOk r IsRange
IsGoodOspfLine (Stub r) = IfOk r (λ (s : StubLine). 1 ≤ s.area)
IsGoodOspfLine (DefaultCost r) = IfOk r (λ (d : AreaCost). d.cost ≤ 16777214)
IsGoodOspfLine (Distance r) = IfOk r IsOspfDistance
IsGoodOspfLine _ = Unit {0}

not_zero : (n : ℕ) → nat_eq n 0 ≡ false → 1 ≤ n
not_zero n e = grind (arith, nat_tests)

stub_good : (area : Option ℕ) (no_summary : Bool) → IfOk (stub_values area no_summary) (λ (s : StubLine). 1 ≤ s.area)
stub_good None no_summary = tt
stub_good (Some n) no_summary = choice (nat_eq n 0) refl
  where
    choice : (t : Bool) → nat_eq n 0 ≡ t → IfOk (cond t (Err BadArea) (Ok (record { area = n; no_summary = no_summary }))) (λ (s : StubLine). 1 ≤ s.area)
    choice true e = tt
    choice false e = not_zero n e

default_good : (cost : Result ℕ ReadKind) (area : Option ℕ) → IfOk cost (IsFrom 0 16777214) →
    IfOk (default_cost_values cost area) (λ (d : AreaCost). d.cost ≤ 16777214)
default_good cost area h = grind arith

optional_good : (r : Result ℕ ReadKind) → IfOk r (IsFrom 0 16777214) → IfOk (optional_cost r) (λ (c : Option ℕ). IfSome c (λ n. n ≤ 16777214))
optional_good (Err kind) h = tt
optional_good (Ok cost) h = h.high

range_cost_good : (words : List Word) (k : ℕ) → IfOk (range_cost words k) (λ (c : Option ℕ). IfSome c (λ n. n ≤ 16777214))
range_cost_good words k = grind (arith, common_steps, by_if, number_good, optional_good)

range_prefix_good : (a len : Option ℕ) → IfSome a (λ n. n < 2 ^ 32) → IfSome len (λ n. n ≤ 32) → IfOk (range_prefix a len) IsBlock
range_prefix_good a len h i = grind (arith, common_steps, prefix_good)

range_values_good : (words : List Word) (dest : Result Block ReadKind) (cost : Result (Option ℕ) ReadKind) (area : Option ℕ) →
    IfOk dest IsBlock → IfOk cost (λ (c : Option ℕ). IfSome c (λ n. n ≤ 16777214)) → IfOk (range_values words dest cost area) IsRange
range_values_good words dest cost area h i = grind (arith, common_steps, by_if)

range_good : (words : List Word) → IfOk (range_line words) IsRange
range_good words =
    grind (arith, common_steps, address_within, mask_within, range_cost_good, range_prefix_good, range_values_good)

area_line_good : (words : List Word) → IsGoodOspfLine (ospf_area_line words)
area_line_good words =
    by_if IsGoodOspfLine (says words 2 (codes "stub")) _ _ (stub_good (area_of (word_at words 1)) (says words 3 (codes "no-summary")))
    (by_if IsGoodOspfLine (says words 2 (codes "default-cost")) _ _ (default_good (number_from 0 16777214 BadCost (word_at words 3))
    (area_of (word_at words 1)) (number_good 0 16777214 BadCost (word_at words 3)))
    (by_if IsGoodOspfLine (says words 2 (codes "range")) _ _ (range_good words)
    (by_if IsGoodOspfLine (is_unsupported_area (word_at words 2)) _ _ tt tt)))

not_clash : (n : ℕ) → nat_eq n 115 ≡ false → n ≢ 115
not_clash n e = λ h. grind (arith, nat_tests)

apart_good : (r : Result ℕ ReadKind) → IfOk r (IsFrom 1 255) → IfOk (apart_distance r) IsOspfDistance
apart_good (Err kind) h = tt
apart_good (Ok n) h = choice (nat_eq n 115) refl
  where
    choice : (t : Bool) → nat_eq n 115 ≡ t → IfOk (cond t (Err DistanceClash) (Ok n)) IsOspfDistance
    choice true e = tt
    choice false e = record { some = h.low; most = h.high; apart = not_clash n e }

distance_good : (words : List Word) → IfOk (ospf_distance words) IsOspfDistance
distance_good words = grind (arith, common_steps, apart_good, by_if, number_good)

passive_good : (words : List Word) (k : ℕ) (passive : Bool) → IsGoodOspfLine (ospf_passive words k passive)
passive_good words k passive = grind (arith, common_steps, by_if)

plain_ospf_good : (words : List Word) → IsGoodOspfLine (plain_of_ospf words)
plain_ospf_good words = grind (arith, common_steps, by_if, distance_good)

pub ospf_line_good : (words : List Word) → IsGoodOspfLine (ospf_line words)
ospf_line_good words =
    by_if IsGoodOspfLine (says words 0 (codes "network")) _ _ tt
    (by_if IsGoodOspfLine (says words 0 (codes "area")) _ _ (area_line_good words)
    (by_if IsGoodOspfLine (says words 0 (codes "passive-interface")) _ _ (passive_good words 1 true)
    (by_if IsGoodOspfLine (begins_with_two words (codes "no") (codes "passive-interface")) _ _ (passive_good words 2 false) (plain_ospf_good words))))

-- ---- lines of the IS-IS process ----

-- a distance of IS-IS: 115 or 255
abbrev pub IsIsisDistance : ℕ → Type 0
IsIsisDistance n = (n ≡ 115) ⊎ (n ≡ 255)

-- the values of a line are in their ranges
abbrev pub IsGoodIsisLine : IsisLine → Type 0
IsGoodIsisLine (Net title) = IfSome title (λ (t : Title). t.system < 2 ^ 48)
IsGoodIsisLine (IsisMetric r) = IfOk r (IsFrom 1 16777214)
IsGoodIsisLine (IsisDistance r) = IfOk r IsIsisDistance
IsGoodIsisLine _ = Unit {0}

hex_small : (b : ℕ) → hex_value b < 16
hex_small b = grind (arith, nat_tests)

group_small : (word : Word) (k : ℕ) → group_value word k < 65536
group_small word k = grind (arith, common_steps, hex_small)

system_small : (groups : List ℕ) → system_value groups < 2 ^ 48
system_small groups = omega (arith, group_small groups 1, group_small groups 6, group_small groups 11)

title_good : (word : Word) → IfSome (title_of word) (λ (t : Title). t.system < 2 ^ 48)
unfolding title_of
title_good word =
    by_if (λ (o : Option Title). IfSome o (λ (t : Title). t.system < 2 ^ 48)) (is_title word) _ _ (system_small (system_part word)) tt

is_distance : (n : ℕ) → (nat_eq n 115 || nat_eq n 255) ≡ true → IsIsisDistance n
is_distance n e = choice (nat_eq n 115) refl
  where
    choice : (t : Bool) → nat_eq n 115 ≡ t → IsIsisDistance n
    choice true f = inl (grind (arith, nat_tests))
    choice false f = inr (grind (arith, nat_tests))

isis_distance_good : (r : Result ℕ ReadKind) → IfOk (isis_distance r) IsIsisDistance
isis_distance_good (Err kind) = tt
isis_distance_good (Ok n) = choice (nat_eq n 115 || nat_eq n 255) refl
  where
    choice : (t : Bool) → (nat_eq n 115 || nat_eq n 255) ≡ t → IfOk (cond t (Ok n) (Err BadDistance)) IsIsisDistance
    choice true e = is_distance n e
    choice false e = tt

isis_passive_good : (words : List Word) (k : ℕ) (passive : Bool) → IsGoodIsisLine (isis_passive words k passive)
isis_passive_good words k passive = grind (arith, common_steps, by_if)

plain_isis_good : (words : List Word) → IsGoodIsisLine (plain_of_isis words)
plain_isis_good words =
    by_if IsGoodIsisLine (says words 0 (codes "metric")) _ _ (number_good 1 16777214 BadMetric (word_at words 1))
    (by_if IsGoodIsisLine (says words 0 (codes "distance")) _ _ (isis_distance_good (number_from 1 255 BadDistance (word_at words 1)))
    (by_if IsGoodIsisLine (says words 0 (codes "passive-interface")) _ _ (isis_passive_good words 1 true)
    (by_if IsGoodIsisLine (begins_with_two words (codes "no") (codes "passive-interface")) _ _ (isis_passive_good words 2 false)
    (by_if IsGoodIsisLine (is_leak words) _ _ tt
    (by_if IsGoodIsisLine (is_unsupported_isis (word_at words 0)) _ _ tt tt)))))

pub isis_line_good : (words : List Word) → IsGoodIsisLine (isis_line words)
isis_line_good words =
    by_if IsGoodIsisLine (says words 0 (codes "net")) _ _ (title_good (word_at words 1))
    (by_if IsGoodIsisLine (says words 0 (codes "is-type")) _ _ tt
    (by_if IsGoodIsisLine (says words 0 (codes "metric-style")) _ _ tt (plain_isis_good words)))
