-- The text of the sample network is no longer than a file may be.
use Rattle.std.proofs.Common.{◌≡◌, ℕ, zero, suc, ◌+◌, ◌-◌, ◌*◌, ◌/◌, ◌%◌, ◌^◌, ◌<◌, ◌≤◌, ◌==◌, Bool, true, false, if◌then◌else◌}
use Rattle.std.proofs.Common.{List, [], ◌∷◌, ◌++◌, length, arith, lit≤, refl}
use Rattle.std.specs.Prelude.{codes}
use Rattle.std.specs.Fmt.{decimal}
use Rattle.std.proofs.lemmas.Fmt.{length-decimal-le}
use Rattle.std.proofs.lemmas.List.{length-append}
use Rattle.printed_lines.specs.Texts.{text_of}
use Rattle.printed_lines.specs.Words.{dotted, spaced}
use Rattle.sample_network.specs.SampleLinks.{sample_cost, far_end, link_before, loopback, sample_metric, near_end}
use Rattle.sample_network.specs.SampleTexts.{sample_address_line, before_lines, sample_cost_line, sample_isis_lines, link_lines, loopback_lines}
use Rattle.sample_network.specs.SampleTexts.{sample_metric_line, next_lines, sample_ospf_lines, sample_router_lines, routers_to, sample_text}

-- ---- words ----

either_within : (b : Bool) (x y most : ℕ) → x ≤ most → y ≤ most → (if b then x else y) ≤ most
either_within true x y most first second = first
either_within false x y most first second = second

byte_short : (n : ℕ) → n < 256 → length (decimal n) ≤ 3
byte_short n below = length-decimal-le 3 n (lit≤ tt) (omega arith) (omega arith)

-- two parts with a dot between them
dot_short : (p q : List ℕ) (a b : ℕ) → length p ≤ a → length q ≤ b → length (p ++ 46 ∷ q) ≤ a + suc b
dot_short p q a b first second =
    let parts : length (p ++ 46 ∷ q) ≡ length p + suc (length q) = length-append p (46 ∷ q) in
    omega (arith, first, second, parts)

address_short : (a : ℕ) → a < 2 ^ 32 → length (dotted a) ≤ 15
address_short a below =
    let p = decimal (a / 2 ^ 24) in
    let q = decimal (a / 2 ^ 16 % 256) in
    let r = decimal (a / 2 ^ 8 % 256) in
    let s = decimal (a % 256) in
    let two = dot_short p q 3 3 (byte_short (a / 2 ^ 24) (omega arith)) (byte_short (a / 2 ^ 16 % 256) (omega arith)) in
    let three = dot_short (p ++ 46 ∷ q) r 7 3 two (byte_short (a / 2 ^ 8 % 256) (omega arith)) in
    dot_short (p ++ 46 ∷ q ++ 46 ∷ r) s 11 3 three (byte_short (a % 256) (omega arith))

-- one more word of a line
word_more : (word : List ℕ) (words : List (List ℕ)) → length (spaced (word ∷ words)) ≡ 1 + length word + length (spaced words)
word_more word words = let all = length-append (32 ∷ word) (spaced words) in omega (arith, all)

-- ---- lines ----

-- each line has fewer than 100 bytes
abbrev AreShortLines : List (List ℕ) → Type 0
AreShortLines [] = Unit {0}
AreShortLines (line ∷ lines) = (length line ≤ 99) × AreShortLines lines

short_append : (lines others : List (List ℕ)) → AreShortLines lines → AreShortLines others → AreShortLines (lines ++ others)
short_append [] others first second = second
short_append (line ∷ lines) others first second = (first.0, short_append lines others first.1 second)

text_short : (lines : List (List ℕ)) → AreShortLines lines → length (text_of lines) ≤ 100 * length lines
text_short [] short = omega arith
text_short (line ∷ lines) short =
    let rest = text_short lines short.1 in
    let first = length-append line (10 ∷ []) in
    let all = length-append (line ++ 10 ∷ []) (text_of lines) in
    omega (arith, short.0, rest, first, all)

address_line_short : (a : ℕ) (mask : List ℕ) → a < 2 ^ 32 → length mask ≤ 15 → length (sample_address_line a mask) ≤ 99
address_line_short a mask below short =
    let address = address_short a below in
    let ip = word_more (codes "ip") (codes "address" ∷ dotted a ∷ mask ∷ []) in
    let name = word_more (codes "address") (dotted a ∷ mask ∷ []) in
    let first = word_more (dotted a) (mask ∷ []) in
    let last = word_more mask [] in
    omega (arith, address, short, ip, name, first, last)

cost_line_short : (cost : ℕ) → cost ≤ 1000 → length (sample_cost_line cost) ≤ 99
cost_line_short cost few =
    let number = length-decimal-le 4 cost (lit≤ tt) (omega arith) (omega arith) in
    let ip = word_more (codes "ip") (codes "ospf" ∷ codes "cost" ∷ decimal cost ∷ []) in
    let ospf = word_more (codes "ospf") (codes "cost" ∷ decimal cost ∷ []) in
    let name = word_more (codes "cost") (decimal cost ∷ []) in
    let last = word_more (decimal cost) [] in
    omega (arith, number, ip, ospf, name, last)

metric_line_short : (metric : ℕ) → metric ≤ 10000 → length (sample_metric_line metric) ≤ 99
metric_line_short metric few =
    let number = length-decimal-le 5 metric (lit≤ tt) (omega arith) (omega arith) in
    let isis = word_more (codes "isis") (codes "metric" ∷ decimal metric ∷ []) in
    let name = word_more (codes "metric") (decimal metric ∷ []) in
    let last = word_more (decimal metric) [] in
    omega (arith, number, isis, name, last)

-- ---- routers ----

link_short : (n : ℕ) (name : List ℕ) (a l : ℕ) → length name ≤ 18 → a < 2 ^ 32 → AreShortLines (link_lines n name a l)
link_short n name a l short below =
    let opens = word_more name [] in
    let address = address_line_short a (codes "255.255.255.252") below (lit≤ tt) in
    let cost = cost_line_short (sample_cost n l) (either_within (l == n) 1000 1 1000 (lit≤ tt) (lit≤ tt)) in
    let metric = metric_line_short (sample_metric n l) (either_within (l == n / 2) 10000 10 10000 (lit≤ tt) (lit≤ tt)) in
    (omega (arith, short, opens), (address, (cost, (lit≤ tt, (metric, tt)))))

router_short : (n i : ℕ) → n ≤ 60 → i ≤ n → AreShortLines (sample_router_lines n i)
router_short n i few within =
    let before : link_before n i ≤ 60 = either_within (i == 1) n (i - 1) 60 few (omega (arith, few, within)) in
    let home : AreShortLines (loopback_lines i) =
    let address = address_line_short (loopback i) (codes "255.255.255.255") (omega (arith, few, within)) (lit≤ tt) in
    (lit≤ tt, (lit≤ tt, (address, (lit≤ tt, tt)))) in
    let next : AreShortLines (next_lines n i) = link_short n (codes "GigabitEthernet0/0") (near_end i) i (lit≤ tt) (omega (arith, few, within)) in
    let back : AreShortLines (before_lines n i) =
    link_short n (codes "GigabitEthernet0/1") (far_end (link_before n i)) (link_before n i) (lit≤ tt) (omega (arith, before)) in
    let ospf : AreShortLines sample_ospf_lines = (lit≤ tt, (lit≤ tt, tt)) in
    let isis : AreShortLines (sample_isis_lines i) = (lit≤ tt, (lit≤ tt, (lit≤ tt, (lit≤ tt, (lit≤ tt, tt))))) in
    let end : AreShortLines (codes "end" ∷ []) = (lit≤ tt, tt) in
    let last : AreShortLines (sample_isis_lines i ++ codes "end" ∷ []) = short_append (sample_isis_lines i) (codes "end" ∷ []) isis end in
    let processes : AreShortLines (sample_ospf_lines ++ sample_isis_lines i ++ codes "end" ∷ []) =
    short_append sample_ospf_lines (sample_isis_lines i ++ codes "end" ∷ []) ospf last in
    let second : AreShortLines (before_lines n i ++ sample_ospf_lines ++ sample_isis_lines i ++ codes "end" ∷ []) =
    short_append (before_lines n i) (sample_ospf_lines ++ sample_isis_lines i ++ codes "end" ∷ []) back processes in
    let first : AreShortLines (next_lines n i ++ before_lines n i ++ sample_ospf_lines ++ sample_isis_lines i ++ codes "end" ∷ []) =
    short_append (next_lines n i) (before_lines n i ++ sample_ospf_lines ++ sample_isis_lines i ++ codes "end" ∷ []) next second in
    short_append (loopback_lines i) (next_lines n i ++ before_lines n i ++ sample_ospf_lines ++ sample_isis_lines i ++ codes "end" ∷ []) home first

routers_short : (n i : ℕ) → n ≤ 60 → i ≤ n → AreShortLines (routers_to n i) × (length (routers_to n i) ≤ 22 * i)
routers_short n zero few within = (tt, omega arith)
routers_short n (suc i) few within =
    let rest = routers_short n i few (omega arith) in
    let more : length (routers_to n (suc i)) ≡ length (routers_to n i) + length (sample_router_lines n (suc i)) =
    length-append (routers_to n i) (sample_router_lines n (suc i)) in
    let lines : length (sample_router_lines n (suc i)) ≡ 22 = refl in
    (short_append (routers_to n i) (sample_router_lines n (suc i)) rest.0 (router_short n (suc i) few within), omega (arith, rest.1, more, lines))

-- so is the text
pub sample_short : (n : ℕ) → n ≤ 60 → length (sample_text n) ≤ 16777216
sample_short n few =
    let lines = routers_short n n few (omega arith) in
    let text : length (sample_text n) ≤ 100 * length (routers_to n n) = text_short (routers_to n n) lines.0 in
    omega (arith, few, lines.1, text)
