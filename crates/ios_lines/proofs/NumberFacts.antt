-- Numbers as words: the reader of numbers, as a function of the word.
use Rattle.std.proofs.lemmas.Grind.{common_steps}
use Rattle.std.proofs.Common.{◌≡◌, ℕ, ◌<◌, ◌≤◌, Bool, true, ◌&&◌, length, Option, Some, None, nat_lt, nat_le, cond, arith}
use Rattle.std.specs.List.{list_all}
use Rattle.std.specs.Char.{is_ascii_digit, IsAsciiDigit}
use Rattle.std.proofs.lemmas.Bool.Decides.{nat_tests}
use Rattle.std.proofs.lemmas.List.Sums.{AllPass-from_list_all, list_all-from_AllPass}
use Rattle.net_addr.specs.Numerals.{decimal_value, IsNumeralUpTo}
use Rattle.net_addr.specs.Readers.{Reads}
use Rattle.ios_lines.specs.Words.{Word, number_of}

digit_true : (b : ℕ) → IsAsciiDigit b → is_ascii_digit b ≡ true
digit_true b h = grind (arith, nat_tests)

true_digit : (b : ℕ) → is_ascii_digit b ≡ true → IsAsciiDigit b
true_digit b h = grind (arith, nat_tests)

pub test_lt : (a b : ℕ) → a < b → nat_lt a b ≡ true
test_lt a b h = grind (arith, nat_tests)

pub test_le : (a b : ℕ) → a ≤ b → nat_le a b ≡ true
test_le a b h = grind (arith, nat_tests)

pub lt_test : (a b : ℕ) → nat_lt a b ≡ true → a < b
lt_test a b h = grind (arith, nat_tests)

pub le_test : (a b : ℕ) → nat_le a b ≡ true → a ≤ b
le_test a b h = grind (arith, nat_tests)

pub and_left : (a b : Bool) → (a && b) ≡ true → a ≡ true
and_left a b h = grind (arith, common_steps)

pub and_right : (a b : Bool) → (a && b) ≡ true → b ≡ true
and_right a b h = grind (arith, common_steps)

pub refused : (t : Bool) (x : ℕ) → (t ≡ true → ⊥) → cond t (Some x) None ≡ None
refused t x h = grind (arith, common_steps)

pub number-some : (most n : ℕ) (word : Word) → IsNumeralUpTo most word n → number_of most word ≡ Some n
number-some most n word h = grind (arith, common_steps, digit_true, list_all-from_AllPass, test_le, test_lt)

pub number_stands : (most : ℕ) (word : Word) → (nat_lt 0 (length word) && list_all is_ascii_digit word && nat_le (decimal_value word) most) ≡ true →
    IsNumeralUpTo most word (decimal_value word)
number_stands most word h =
    grind (arith, common_steps, AllPass-from_list_all, and_left, and_right, le_test, lt_test, true_digit)

pub number-none : (most : ℕ) (word : Word) → ((n : ℕ) → ¬ (IsNumeralUpTo most word n)) → number_of most word ≡ None
number-none most word none = refused _ (decimal_value word) (λ t. none (decimal_value word) (number_stands most word t))

-- the reader of numbers is the function of the word
pub number_read : (most : ℕ) (word : Word) (r : Option ℕ) → Reads r (IsNumeralUpTo most word) → r ≡ number_of most word
number_read most word r none = grind (arith, common_steps, number-none, number-some)

pub taken : (t : Bool) (x n : ℕ) → cond t (Some x) None ≡ Some n → (t ≡ true) × (x ≡ n)
taken t x n e = grind (arith, common_steps)

-- what a number's word stands for
pub number_back : (most n : ℕ) (word : Word) → number_of most word ≡ Some n → IsNumeralUpTo most word (decimal_value word) × (decimal_value word ≡ n)
number_back most n word e = grind (arith, common_steps, number_stands, taken)
