-- The first `network` line that takes an address: in the tables of the lines, and among the lines of the process.
use Rattle.std.proofs.lemmas.Grind.{common_steps}
use Rattle.std.proofs.Common.{sym, ◌≡◌, ℕ, ◌+◌, ◌<◌, ◌≤◌, Bool, true, false, not, ◌&&◌, ◌||◌, List, [], ◌∷◌, ◌++◌, length, take, get_or, Option, Some, None}
use Rattle.std.proofs.Common.{refl, ap, ◌∙◌, cond, filter, nat_eq, arith, append_assoc}
use Rattle.std.specs.Prelude.{All, find, fold, option_map, bit_or}
use Rattle.std.specs.List.{list_any}
use Rattle.std.specs.Map.{lookup}
use Rattle.std.specs.Option.{option_or}
use Rattle.std.proofs.lemmas.List.{append-nil, length-take-le, take_more}
use Rattle.std.proofs.lemmas.List.Elements.{All-head, All-tail, All-more, All-weaker}
use Rattle.std.proofs.lemmas.List.Folds.{find-append}
use Rattle.ios_lines.specs.Lookups.{earlier, first_of}
use Rattle.ios_lines.specs.declared.ospf_line.NetworkLine.{NetworkLine}
use Rattle.ios_lines.specs.declared.ospf_line.OspfLine.{OspfLine}
use Rattle.ios_lines.specs.declared.ospf_line.OspfStatement.{OspfStatement}
use Rattle.ios_reader.specs.declared.networks.PlacedNetwork.{PlacedNetwork}
use Rattle.ios_reader.specs.Routers.{area_taken}
use Rattle.ios_reader.specs.steps.Networks.{network_said, placed_at, placed_networks, Ascend, takes}
use Rattle.ios_reader.specs.steps.Networks.{is_block, block_key, same_block, is_of_block, has_wildcard, HasWildcards, AreNetworkTables, earlier_line}
use Rattle.ios_reader.specs.steps.Networks.{first_of_blocks}

-- ---- places ----

ascend_from : (j k : ℕ) (all : List PlacedNetwork) → j ≤ k → Ascend k all → Ascend j all
ascend_from j k [] below asc = tt
ascend_from j k (line ∷ all) below asc = (omega (arith, asc.0), asc.1)

-- lines with their places stand in the order of these
pub placed_ascend : (place : ℕ) (lines : List OspfStatement) → Ascend place (placed_networks place lines)
placed_ascend place [] = tt
placed_ascend place (s ∷ ss) = with_line (network_said s.says) (placed_ascend (place + 1) ss)
  where
    with_line : (network : Option NetworkLine) → Ascend (place + 1) (placed_networks (place + 1) ss) →
        Ascend place (placed_at place network ++ placed_networks (place + 1) ss)
    with_line None asc = ascend_from place (place + 1) (placed_networks (place + 1) ss) (omega arith) asc
    with_line (Some network) asc = (omega arith, asc)

placed_push : (place : ℕ) (lines : List OspfStatement) (s : OspfStatement) →
    placed_networks place (lines ++ s ∷ []) ≡ placed_networks place lines ++ placed_at (place + length lines) (network_said s.says)
placed_push place [] s =
    let here : place ≡ place + 0 = omega arith in
    append-nil (placed_at place (network_said s.says)) ∙ ap (λ (n : ℕ). placed_at n (network_said s.says)) here
placed_push place (l ∷ ls) s =
    let further : place + 1 + length ls ≡ place + length (l ∷ ls) = omega arith in
    ap (λ (w : List PlacedNetwork). placed_at place (network_said l.says) ++ w) (placed_push (place + 1) ls s)
    ∙ sym (append_assoc (placed_at place (network_said l.says)) (placed_networks (place + 1) ls) (placed_at (place + 1 + length ls) (network_said s.says)))
    ∙ ap (λ (n : ℕ). placed_at place (network_said l.says) ++ placed_networks (place + 1) ls ++ placed_at n (network_said s.says)) further

-- one more line of a loop over the lines of a process
pub placed_more : (lines : List OspfStatement) (i : ℕ) (s : OspfStatement) → i < length lines → s ≡ get_or lines i s →
    placed_networks 0 (take (i + 1) lines) ≡ placed_networks 0 (take i lines) ++ placed_at i (network_said s.says)
placed_more lines i s within read = grind (arith, common_steps, length-take-le, placed_push, take_more)

-- ---- the first line that passes a test ----

-- of two tests that agree
find_same : (f g : PlacedNetwork → Bool) (all : List PlacedNetwork) → All (λ (line : PlacedNetwork). f line ≡ g line) all → find f all ≡ find g all
find_same f g [] same = refl
find_same f g (line ∷ all) same =
    ap (λ (b : Bool). cond b (Some line) (find f all)) (All-head (λ (l : PlacedNetwork). f l ≡ g l) line all same)
    ∙ ap (λ (r : Option PlacedNetwork). cond (g line) (Some line) r) (find_same f g all (All-tail (λ (l : PlacedNetwork). f l ≡ g l) line all same))

find_alike : (f g : PlacedNetwork → Bool) (all : List PlacedNetwork) → ((line : PlacedNetwork) → f line ≡ g line) → find f all ≡ find g all
find_alike f g all same = find_same f g all (λ k d l. same (get_or all k d))

find_nothing : (all : List PlacedNetwork) → find (λ (line : PlacedNetwork). false) all ≡ None
find_nothing [] = refl
find_nothing (line ∷ all) = find_nothing all

-- of some of the lines
find_among : (test kept : PlacedNetwork → Bool) (all : List PlacedNetwork) →
    find test (filter kept all) ≡ find (λ (line : PlacedNetwork). kept line && test line) all
find_among test kept [] = refl
find_among test kept (line ∷ all) = cases (kept line) (find_among test kept all)
  where
    cases : (b : Bool) → find test (filter kept all) ≡ find (λ (l : PlacedNetwork). kept l && test l) all →
        find test (cond b (line ∷ filter kept all) (filter kept all)) ≡ cond (b && test line) (Some line) (find (λ (l : PlacedNetwork). kept l && test l) all)
    cases true rest = ap (λ (r : Option PlacedNetwork). cond (test line) (Some line) r) rest
    cases false rest = rest

-- one more line of a loop
pub find_more : (f : PlacedNetwork → Bool) (all : List PlacedNetwork) (i : ℕ) (d : PlacedNetwork) → i < length all →
    find f (take (i + 1) all) ≡ option_or (find f (take i all)) (find f (get_or all i d ∷ []))
find_more f all i d within = ap (find f) (take_more all i d within) ∙ find-append f (take i all) (get_or all i d ∷ [])

-- ---- the first line that passes one of two tests ----

found_place : (b : Bool) (place : ℕ) (first line : PlacedNetwork) (rest : Option PlacedNetwork) → place ≤ first.place →
    (rest ≡ Some line → first.place + 1 ≤ line.place) → cond b (Some first) rest ≡ Some line → place ≤ line.place
found_place b place first line rest here there e = grind (arith, common_steps)

find_place : (f : PlacedNetwork → Bool) (place : ℕ) (all : List PlacedNetwork) (line : PlacedNetwork) → Ascend place all → find f all ≡ Some line →
    place ≤ line.place
find_place f place [] line asc e = absurd cc
find_place f place (l ∷ all) line asc e = found_place (f l) place l line (find f all) asc.0 (find_place f (l.place + 1) all line asc.1) e

either_cases : (b c : Bool) (line : PlacedNetwork) (x y rest : Option PlacedNetwork) →
    ((l : PlacedNetwork) → x ≡ Some l → line.place + 1 ≤ l.place) → ((l : PlacedNetwork) → y ≡ Some l → line.place + 1 ≤ l.place) → earlier_line x y ≡ rest →
    earlier_line (cond b (Some line) x) (cond c (Some line) y) ≡ cond (b || c) (Some line) rest
either_cases b c line x y rest after_x after_y both = grind arith

find_either : (f g : PlacedNetwork → Bool) (place : ℕ) (all : List PlacedNetwork) → Ascend place all →
    earlier_line (find f all) (find g all) ≡ find (λ (line : PlacedNetwork). f line || g line) all
find_either f g place [] asc = refl
find_either f g place (line ∷ all) asc =
    either_cases (f line) (g line) line (find f all) (find g all) (find (λ (l : PlacedNetwork). f l || g l) all)
    (λ l. find_place f (line.place + 1) all l asc.1) (λ l. find_place g (line.place + 1) all l asc.1)
    (find_either f g (line.place + 1) all asc.1)

-- ---- the tables ----

-- the line is of the block that has the address, by one of these wildcards
abbrev of_blocks : ℕ → List ℕ → PlacedNetwork → Bool
of_blocks address wildcards line = list_any (λ (w : ℕ). is_of_block (w, bit_or address w) line) wildcards

or_false : (b : Bool) → (b || false) ≡ b
or_false b = grind (arith, common_steps)

or_assoc : (a b c : Bool) → ((a || b) || c) ≡ (a || (b || c))
or_assoc a b c = grind (arith, common_steps)

by_blocks : (address : ℕ) (all : List PlacedNetwork) (table : ℕ × ℕ → Option PlacedNetwork) (wildcards : List ℕ) (f : PlacedNetwork → Bool)
    (found : Option PlacedNetwork) →
    Ascend 0 all → ((key : ℕ × ℕ) → table key ≡ find (is_of_block key) all) → found ≡ find f all →
    fold (λ (o : Option PlacedNetwork) (w : ℕ). earlier_line o (table (w, bit_or address w))) found wildcards
    ≡ find (λ (line : PlacedNetwork). f line || of_blocks address wildcards line) all
by_blocks address all table [] f found asc is before = before ∙ find_alike f (λ (line : PlacedNetwork). f line || false) all (λ line. sym (or_false (f line)))
by_blocks address all table (w ∷ ws) f found asc is before =
    let here : PlacedNetwork → Bool = is_of_block (w, bit_or address w) in
    by_blocks address all table ws (λ (line : PlacedNetwork). f line || here line) (earlier_line found (table (w, bit_or address w))) asc is
    (ap (λ (o : Option PlacedNetwork). earlier_line o (table (w, bit_or address w))) before
    ∙ ap (earlier_line (find f all)) (is (w, bit_or address w))
    ∙ find_either f here 0 all asc)
    ∙ find_alike (λ (line : PlacedNetwork). (f line || here line) || of_blocks address ws line)
    (λ (line : PlacedNetwork). f line || (here line || of_blocks address ws line)) all
    (λ line. or_assoc (f line) (here line) (of_blocks address ws line))

any_nothing : (ws : List ℕ) → list_any (λ (w : ℕ). false) ws ≡ false
any_nothing [] = refl
any_nothing (w ∷ ws) = any_nothing ws

agrees : (address : ℕ) (line : PlacedNetwork) (w : ℕ) (b : Bool) → nat_eq w line.network.wildcard ≡ b →
    (b && nat_eq (bit_or address w) (bit_or line.network.address line.network.wildcard)) ≡ (b && takes address line)
agrees address line w b e = grind arith

and_or : (a b c : Bool) → ((a && c) || (b && c)) ≡ ((a || b) && c)
and_or a b c = grind arith

same_blocks : (address : ℕ) (line : PlacedNetwork) (ws : List ℕ) →
    list_any (λ (w : ℕ). same_block (w, bit_or address w) (block_key line.network)) ws ≡ (has_wildcard ws line.network.wildcard && takes address line)
same_blocks address line [] = refl
same_blocks address line (w ∷ ws) =
    ap (λ (b : Bool). b || list_any (λ (v : ℕ). same_block (v, bit_or address v) (block_key line.network)) ws)
    (agrees address line w (nat_eq w line.network.wildcard) refl)
    ∙ ap (λ (b : Bool). (nat_eq w line.network.wildcard && takes address line) || b) (same_blocks address line ws)
    ∙ and_or (nat_eq w line.network.wildcard) (has_wildcard ws line.network.wildcard) (takes address line)

-- a line takes the address where it is of a block that has it, or where its wildcard has holes and it takes it
block_or_other : (address : ℕ) (line : PlacedNetwork) (ws : List ℕ) → (is_block line.network.wildcard ≡ true → has_wildcard ws line.network.wildcard ≡ true) →
    (of_blocks address ws line || (not (is_block line.network.wildcard) && takes address line)) ≡ takes address line
block_or_other address line ws there = cases (is_block line.network.wildcard) there
  where
    cases : (b : Bool) → (b ≡ true → has_wildcard ws line.network.wildcard ≡ true) →
        (list_any (λ (w : ℕ). b && same_block (w, bit_or address w) (block_key line.network)) ws || (not b && takes address line)) ≡ takes address line
    cases true has =
        or_false (list_any (λ (w : ℕ). same_block (w, bit_or address w) (block_key line.network)) ws)
        ∙ same_blocks address line ws ∙ ap (λ (b : Bool). b && takes address line) (has refl)
    cases false has = ap (λ (b : Bool). b || takes address line) (any_nothing ws)

-- the first line that takes the address is the one that the tables give
pub first_by_tables : (address : ℕ) (all : List PlacedNetwork) (blocks : List ((ℕ × ℕ) × PlacedNetwork)) (wildcards : List ℕ) (others : List PlacedNetwork) →
    AreNetworkTables all blocks wildcards others →
    earlier_line (first_of_blocks (λ (key : ℕ × ℕ). lookup (same_block key) blocks) wildcards address) (find (takes address) others) ≡ find (takes address) all
first_by_tables address all blocks wildcards others tables =
    let other : PlacedNetwork → Bool = λ line. not (is_block line.network.wildcard) in
    ap (λ (o : Option PlacedNetwork). earlier_line o (find (takes address) others))
    (by_blocks address all (λ (key : ℕ × ℕ). lookup (same_block key) blocks) wildcards (λ (line : PlacedNetwork). false) None tables.ascend tables.firsts
    (sym (find_nothing all)))
    ∙ ap (λ (ls : List PlacedNetwork). earlier_line (find (of_blocks address wildcards) all) (find (takes address) ls)) tables.with_holes
    ∙ ap (earlier_line (find (of_blocks address wildcards) all)) (find_among (takes address) other all)
    ∙ find_either (of_blocks address wildcards) (λ (line : PlacedNetwork). other line && takes address line) 0 all tables.ascend
    ∙ find_same (λ (line : PlacedNetwork). of_blocks address wildcards line || (other line && takes address line)) (takes address) all
    (All-weaker (λ (line : PlacedNetwork). is_block line.network.wildcard ≡ true → has_wildcard wildcards line.network.wildcard ≡ true)
    (λ (line : PlacedNetwork). (of_blocks address wildcards line || (other line && takes address line)) ≡ takes address line)
    (λ line there. block_or_other address line wildcards there) all tables.has_wildcards)

-- one more line, of which the wildcard is there
pub wildcards_more : (all : List PlacedNetwork) (i : ℕ) (d : PlacedNetwork) (old new : List ℕ) → i < length all → HasWildcards (take i all) old →
    (is_block (get_or all i d).network.wildcard ≡ true → has_wildcard new (get_or all i d).network.wildcard ≡ true) →
    ((v : ℕ) → has_wildcard old v ≡ true → has_wildcard new v ≡ true) → HasWildcards (take (i + 1) all) new
wildcards_more all i d old new within before there kept =
    let Has : List ℕ → PlacedNetwork → Type 0 = λ ws l. is_block l.network.wildcard ≡ true → has_wildcard ws l.network.wildcard ≡ true in
    All-more (Has new) all i d within (All-weaker (Has old) (Has new) (λ l has block. kept l.network.wildcard (has block)) (take i all) before) there

-- ---- the lines of a process ----

abbrev area_if : ℕ → Option NetworkLine → Option ℕ
area_if address None = None
area_if address (Some network) =
    cond (nat_eq (bit_or address network.wildcard) (bit_or network.address network.wildcard)) (Some network.area) None

area_said : (address : ℕ) (line : OspfLine) → area_taken address line ≡ area_if address (network_said line)
area_said address line = grind arith

abbrev pub area_of_line : PlacedNetwork → ℕ
area_of_line line = line.network.area

-- the first `network` line that takes an address gives the area of the first line with its place that takes it
pub first_area : (address place : ℕ) (lines : List OspfStatement) →
    first_of (λ (s : OspfStatement). area_taken address s.says) lines ≡ option_map area_of_line (find (takes address) (placed_networks place lines))
first_area address place [] = refl
first_area address place (s ∷ ss) =
    ap (λ (o : Option ℕ). earlier o (first_of (λ (t : OspfStatement). area_taken address t.says) ss)) (area_said address s.says)
    ∙ ap (earlier (area_if address (network_said s.says))) (first_area address (place + 1) ss)
    ∙ with_line (network_said s.says)
  where
    taken : (b : Bool) (network : NetworkLine) →
        earlier (cond b (Some network.area) None) (option_map area_of_line (find (takes address) (placed_networks (place + 1) ss)))
        ≡ option_map area_of_line (cond b (Some (record { place = place; network = network })) (find (takes address) (placed_networks (place + 1) ss)))
    taken true network = refl
    taken false network = refl

    with_line : (network : Option NetworkLine) →
        earlier (area_if address network) (option_map area_of_line (find (takes address) (placed_networks (place + 1) ss)))
        ≡ option_map area_of_line (find (takes address) (placed_at place network ++ placed_networks (place + 1) ss))
    with_line None = refl
    with_line (Some network) = taken (nat_eq (bit_or address network.wildcard) (bit_or network.address network.wildcard)) network
