-- Masks as words, against the function of the word.
use Rattle.std.proofs.Common.{sym, ◌≡◌, ◌≢◌, ℕ, zero, suc, ◌+◌, ◌-◌, ◌^◌, ◌<◌, ◌≤◌, Bool, true, false, Option, Some, None, refl}
use Rattle.std.proofs.Common.{ap, ◌∙◌, nat_eq, cond, arith}
use Rattle.std.specs.List.{range_with_len}
use Rattle.std.specs.Prelude.{find, IfSome}
use Rattle.std.proofs.Math.Pow.{pow-lt, pow_mono}
use Rattle.std.proofs.lemmas.Bool.{false≢true}
use Rattle.std.proofs.lemmas.Bool.Decides.{nat_tests}
use Rattle.net_addr.specs.AddressWords.{IsMask, IsMaskWord}
use Rattle.net_addr.proofs.MaskFacts.{IsMask-sum, IsMask-from_sum}
use Rattle.ios_lines.specs.Words.{Word, address_of, mask_with, mask_length, mask_of}
use Rattle.ios_lines.proofs.AddressFacts.{address-some, address_back, none_of}
use Rattle.ios_lines.proofs.Picked.{by_some}

picked : (b : Bool) (start len : ℕ) (rest : Option ℕ) → (start ≢ len → b ≡ false) → (start ≡ len → b ≡ true) →
    (start ≢ len → rest ≡ Some len) →
    start ≤ len → cond b (Some start) rest ≡ Some len
picked b start len rest miss hit later low = grind arith

-- the first number of a run of numbers that passes
find_in_run : (p : ℕ → Bool) (n start len : ℕ) → start ≤ len → len < start + n → p len ≡ true →
    ((k : ℕ) → k < len → p k ≡ false) →
    find p (range_with_len start n) ≡ Some len
find_in_run p zero start len low high hit miss = absurd (omega arith)
find_in_run p (suc n) start len low high hit miss =
    picked (p start) start len (find p (range_with_len (start + 1) n))
    (λ apart. miss start (omega arith))
    (λ e. ap p e ∙ hit)
    (λ apart. find_in_run p n (start + 1) len (omega arith) (omega arith) hit miss)
    low

record IsFound (p : ℕ → Bool) (start n len : ℕ) : Type 0 where
  passes : p len ≡ true
  low : start ≤ len
  high : len < start + n

found_first : (p : ℕ → Bool) (n start len : ℕ) (b : Bool) → p start ≡ b →
    (find p (range_with_len (start + 1) n) ≡ Some len → IsFound p (start + 1) n len) →
    cond b (Some start) (find p (range_with_len (start + 1) n)) ≡ Some len → IsFound p start (suc n) len
found_first p n start len b passes later e = grind arith

found_in_run : (p : ℕ → Bool) (n start len : ℕ) → find p (range_with_len start n) ≡ Some len → IsFound p start n len
found_in_run p zero start len e = absurd cc
found_in_run p (suc n) start len e = found_first p n start len (p start) refl (λ f. found_in_run p n (start + 1) len f) e

eq_true : (a b : ℕ) → a ≡ b → nat_eq a b ≡ true
eq_true a b h = grind (arith, nat_tests)

eq_false : (a b : ℕ) → a ≢ b → nat_eq a b ≡ false
eq_false a b h = grind (arith, nat_tests)

true_eq : (a b : ℕ) → nat_eq a b ≡ true → a ≡ b
true_eq a b h = grind (arith, nat_tests)

mask-some : (a len : ℕ) → IsMask a len → mask_length (Some a) ≡ Some len
mask-some a len mask =
    let sum : a + 2 ^ (32 - len) ≡ 2 ^ 32 = IsMask-sum a len mask in
    find_in_run (λ (k : ℕ). nat_eq (mask_with k) a) 32 1 len mask.some (omega (arith, mask.most))
    (eq_true (mask_with len) a (omega arith))
    (λ k below.
    let longer : 2 ^ (32 - len) < 2 ^ (32 - k) = pow-lt {i = 32 - len} {j = 32 - k} (omega (arith, mask.most)) in
    let within : 2 ^ (32 - k) ≤ 2 ^ 32 = pow_mono {i = 32 - k} {j = 32} (omega arith) in
    eq_false (mask_with k) a (omega arith))

mask_back : (a len : ℕ) → mask_length (Some a) ≡ Some len → IsMask a len
mask_back a len e =
    let found = found_in_run (λ (k : ℕ). nat_eq (mask_with k) a) 32 1 len e in
    let same : mask_with len ≡ a = true_eq (mask_with len) a found.passes in
    let most : 2 ^ (32 - len) ≤ 2 ^ 32 = pow_mono {i = 32 - len} {j = 32} (omega arith) in
    IsMask-from_sum a len found.low (omega (arith, found.high)) (omega arith)

-- a length whose mask is the address
pub mask_found : (a len : ℕ) → 1 ≤ len → len ≤ 32 → nat_eq (mask_with len) a ≡ true → mask_length (Some a) ≡ Some len
mask_found a len some most same =
    let is : mask_with len ≡ a = true_eq (mask_with len) a same in
    let within : 2 ^ (32 - len) ≤ 2 ^ 32 = pow_mono {i = 32 - len} {j = 32} (omega arith) in
    mask-some a len (IsMask-from_sum a len some most (omega arith))

-- an address that is no mask of any length
pub mask_missed : (a : ℕ) → ((zeros : ℕ) → zeros < 32 → nat_eq (mask_with (32 - zeros)) a ≡ false) → mask_length (Some a) ≡ None
mask_missed a missed = none_of (mask_length (Some a)) (λ len e.
    let found = found_in_run (λ (k : ℕ). nat_eq (mask_with k) a) 32 1 len e in
    let len_is : 32 - (32 - len) ≡ len = omega (arith, found.high) in
    let no : nat_eq (mask_with len) a ≡ false =
    ap (λ (k : ℕ). nat_eq (mask_with k) a) (sym len_is) ∙ missed (32 - len) (omega (arith, found.low)) in
    false≢true (sym no ∙ found.passes))

-- a mask by its sum with the size of its block
pub mask_by_sum : (a len : ℕ) → len ≤ 32 → nat_eq (a + 2 ^ (32 - len)) (2 ^ 32) ≡ nat_eq (mask_with len) a
mask_by_sum a len most =
    let within : 2 ^ (32 - len) ≤ 2 ^ 32 = pow_mono {i = 32 - len} {j = 32} (omega arith) in
    grind (arith, nat_tests)

word_back : (word : Word) (o : Option ℕ) (len : ℕ) → address_of word ≡ o → mask_length o ≡ Some len → IsMaskWord word len
word_back word None len written e = absurd cc
word_back word (Some a) len written e = record { address = a; written = address_back word a written; mask = mask_back a len e }

pub mask_back_word : (word : Word) (len : ℕ) → mask_of word ≡ Some len → IsMaskWord word len
unfolding mask_of
mask_back_word word len e = word_back word (address_of word) len refl e

pub mask_word-some : (word : Word) (len : ℕ) → IsMaskWord word len → mask_of word ≡ Some len
unfolding mask_of
mask_word-some word len stands = ap mask_length (address-some word stands.address stands.written) ∙ mask-some stands.address len stands.mask

-- a mask has at most 32 ones
pub mask_within : (word : Word) → IfSome (mask_of word) (λ len. len ≤ 32)
unfolding mask_of
mask_within word = by_some (λ (len : ℕ). len ≤ 32) (mask_length (address_of word)) (λ len e. within (address_of word) len e)
  where
    within : (o : Option ℕ) (len : ℕ) → mask_length o ≡ Some len → len ≤ 32
    within None len e = absurd cc
    within (Some a) len e = (mask_back a len e).most
