-- What holds of decimal numbers.
use Rattle.std.proofs.lemmas.Grind.{common_steps}
use Rattle.std.proofs.Common.{◌≡◌, ℕ, ◌+◌, ◌-◌, ◌*◌, ◌^◌, ◌<◌, ◌≤◌, List, [], ◌∷◌, ◌++◌, length, take, drop, get_or, arith, sym, ap}
use Rattle.std.proofs.Common.{subst, lit<, ◌∙◌, length-append}
use Rattle.std.proofs.lemmas.Nat.{pow-add}
use Rattle.std.proofs.Math.Nat.{one-le-pow, le-mul_of_pos_right}
use Rattle.std.proofs.lemmas.List.{take_more, take-append-drop, take_all, get_or_default}
use Rattle.std.specs.Char.{IsAsciiDigit}
use Rattle.net_addr.specs.Numerals.{decimal_value, IsNumeralUpTo}

part_value : (digit more end a b : ℕ) → digit * (a * b) + (more * b + end) ≡ (digit * a + more) * b + end
part_value digit more end a b = omega arith

-- the value of a word in two parts
pub decimal_value-append : (xs ys : List ℕ) → decimal_value (xs ++ ys) ≡ decimal_value xs * 10 ^ length ys + decimal_value ys
decimal_value-append [] ys = omega arith
decimal_value-append (x ∷ xs) ys =
    let count : 10 ^ length (xs ++ ys) ≡ 10 ^ length xs * 10 ^ length ys = ap (λ (k : ℕ). 10 ^ k) (length-append xs ys) ∙ pow-add 10 (length xs) (length ys) in
    ap (λ (k : ℕ). (x - 48) * k + decimal_value (xs ++ ys)) count
    ∙ ap (λ (k : ℕ). (x - 48) * (10 ^ length xs * 10 ^ length ys) + k) (decimal_value-append xs ys)
    ∙ part_value (x - 48) (decimal_value xs) (decimal_value ys) (10 ^ length xs) (10 ^ length ys)

-- a digit at the end of a word
pub decimal_value-push : (xs : List ℕ) (digit : ℕ) → decimal_value (xs ++ digit ∷ []) ≡ 10 * decimal_value xs + (digit - 48)
decimal_value-push xs digit = grind (arith, common_steps, decimal_value-append)

-- one more digit of a word
pub decimal_value_more : (word : List ℕ) (i : ℕ) → i < length word →
    decimal_value (take (i + 1) word) ≡ 10 * decimal_value (take i word) + (get_or word i 0 - 48)
decimal_value_more word i within = ap decimal_value (take_more word i 0 within) ∙ decimal_value-push (take i word) (get_or word i 0)

grows : (a b c : ℕ) → 1 ≤ b → a ≤ a * b + c
grows a b c pos = omega (arith, le-mul_of_pos_right a pos)

-- the digits after a part only add to its value
pub decimal_value-take : (word : List ℕ) (i : ℕ) → decimal_value (take i word) ≤ decimal_value word
decimal_value-take word i =
    let whole : decimal_value word ≡ decimal_value (take i word) * 10 ^ length (drop i word) + decimal_value (drop i word) =
    ap decimal_value (sym (take-append-drop i word)) ∙ decimal_value-append (take i word) (drop i word) in
    subst (λ (m : ℕ). decimal_value (take i word) ≤ m) (sym whole)
    (grows (decimal_value (take i word)) (10 ^ length (drop i word)) (decimal_value (drop i word)) (one-le-pow (length (drop i word)) 10 (lit< tt)))

-- a word one of whose bytes is no digit, or whose value up to a digit is above `most`, is no numeral up to `most`
pub no_numeral : (most : ℕ) (word : List ℕ) (i value : ℕ) → i < length word → decimal_value (take i word) ≡ value →
    ¬ (IsAsciiDigit (get_or word i 0) × (10 * value + (get_or word i 0 - 48) ≤ most)) → (n : ℕ) → ¬ (IsNumeralUpTo most word n)
no_numeral most word i value within read off n stands = grind (arith, common_steps, decimal_value-take, decimal_value_more)

-- a word of digits, read to its end
pub whole_numeral : (most : ℕ) (word : List ℕ) (i value : ℕ) → 0 < length word → length word ≤ i →
    ((k : ℕ) → k < i → IsAsciiDigit (get_or word k 0)) → decimal_value (take i word) ≡ value → value ≤ most → IsNumeralUpTo most word value
whole_numeral most word i value some all digits read small = record {
  numeral = record {
    some = some;
    digits = λ k d below. subst IsAsciiDigit (get_or_default word k 0 d below) (digits k (omega arith));
    value = ap decimal_value (sym (take_all i word all)) ∙ read;
  };
  within = small;
}

-- a word stands for at most one number
pub IsNumeralUpTo-unique : (most : ℕ) (word : List ℕ) (m n : ℕ) → IsNumeralUpTo most word m → IsNumeralUpTo most word n → m ≡ n
IsNumeralUpTo-unique most word m n x y = sym x.numeral.value ∙ y.numeral.value
