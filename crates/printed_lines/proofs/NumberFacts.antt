-- Numbers in decimal and addresses in dotted decimal read back.
use Rattle.std.proofs.Common.{◌≡◌, ℕ, ◌+◌, ◌*◌, ◌/◌, ◌%◌, ◌^◌, ◌<◌, ◌≤◌, Option, Some, None, List, [], ◌∷◌}
use Rattle.std.proofs.Common.{◌++◌, get_or, refl, ap, ◌∙◌, ⊎_elim, append_assoc, arith, length-append}
use Rattle.std.specs.Fmt.{decimal}
use Rattle.std.specs.Char.{IsAsciiDigit}
use Rattle.std.proofs.lemmas.Bool.{cases_lt}
use Rattle.std.proofs.lemmas.Fmt.{decimal_by_steps, decimal_digit, first_decimal, length-decimal-le}
use Rattle.std.proofs.lemmas.List.Elements.{All-append, All-cons, All-nil, All-push, All-weaker}
use Rattle.net_addr.specs.Readers.{Reads}
use Rattle.net_addr.specs.Numerals.{decimal_value, IsNumeral, IsNumeralUpTo}
use Rattle.net_addr.specs.AddressWords.{IsOctet, IsAddressWord}
use Rattle.net_addr.proofs.NumeralFacts.{decimal_value-push, IsNumeralUpTo-unique}
use Rattle.net_addr.proofs.AddressWordFacts.{IsAddressWord-unique}
use Rattle.printed_lines.specs.Words.{IsWordByte, IsPrintedWord, dotted}
use Rattle.printed_lines.specs.ReadBack.{NumbersReadBack, AddressesReadBack}

-- a reader answers the one thing that a word stands for
pub one_reading :
    (StandsFor : ℕ → Type 0) (x : ℕ) → StandsFor x → ((y : ℕ) → StandsFor y → y ≡ x) → (read : Option ℕ) →
    Reads read StandsFor → read ≡ Some x
one_reading StandsFor x stands only None reads = absurd (reads x stands)
one_reading StandsFor x stands only (Some y) reads = ap (λ (z : ℕ). Some z) (only y reads)

glyph : (d : ℕ) → d < 10 → IsAsciiDigit (48 + d)
glyph d small = (omega arith, omega arith)

one_digit : (n : ℕ) → n < 10 → IsNumeral ((48 + n) ∷ []) n
one_digit n small = record {
  some = omega arith;
  digits = All-cons IsAsciiDigit (48 + n) [] (glyph n small) (All-nil IsAsciiDigit);
  value = omega arith;
}

more_digits : (n : ℕ) (word : List ℕ) → 10 ≤ n → IsNumeral word (n / 10) → IsNumeral (word ++ (48 + n % 10) ∷ []) n
more_digits n word large front = record {
  some = omega (arith, length-append word ((48 + n % 10) ∷ []));
  digits = All-push IsAsciiDigit word (48 + n % 10) front.digits (glyph (n % 10) (omega arith));
  value = omega (arith, decimal_value-push word (48 + n % 10), front.value);
}

-- the decimal digits of a number stand for it
pub decimal-IsNumeral : (n : ℕ) → n < 2 ^ 64 → IsNumeral (decimal n) n
decimal-IsNumeral n fits = decimal_by_steps (λ (m : ℕ) (word : List ℕ). IsNumeral word m) one_digit more_digits n fits

-- a byte above the blank is one of a word
pub IsWordByte-above_blank : (b : ℕ) → 32 < b → IsWordByte b
IsWordByte-above_blank b above =
    record { no_space = λ e. omega arith; no_tab = λ e. omega arith; no_feed = λ e. omega arith; no_return = λ e. omega arith }

digit_in_word : (b : ℕ) → IsAsciiDigit b → IsWordByte b
digit_in_word b digit = let low : 48 ≤ b = digit.0 in IsWordByte-above_blank b (omega arith)

pub decimal-IsPrintedWord : (n : ℕ) → n < 2 ^ 64 → IsPrintedWord (decimal n)
decimal-IsPrintedWord n fits =
    let numeral : IsNumeral (decimal n) n = decimal-IsNumeral n fits in
    record { some = numeral.some; bytes = All-weaker IsAsciiDigit IsWordByte digit_in_word (decimal n) numeral.digits }

decimal-no_zeros : (n : ℕ) → n < 2 ^ 64 → get_or (decimal n) 0 0 ≡ 48 → decimal n ≡ 48 ∷ []
decimal-no_zeros n fits zero_first =
    ⊎_elim
    (λ (above : 0 < n). absurd (omega (arith, first_decimal n above fits, zero_first)))
    (λ (none : n ≤ 0). let zero_is : n ≡ 0 = omega arith in decimal_digit n (omega arith) ∙ ap (λ (k : ℕ). (48 + k) ∷ []) zero_is)
    (cases_lt 0 n)

-- a number in decimal reads as this number
pub numbers_read_back : NumbersReadBack
numbers_read_back n most fits small =
    let stands : IsNumeralUpTo most (decimal n) n = record { numeral = decimal-IsNumeral n fits; within = small } in (
      record { word = decimal-IsPrintedWord n fits; no_zeros = decimal-no_zeros n fits },
      record {
        stands = stands;
        answer = one_reading (IsNumeralUpTo most (decimal n)) n stands (λ m other. IsNumeralUpTo-unique most (decimal n) m n other stands);
      },
    )

octet : (n : ℕ) → n < 256 → IsOctet (decimal n)
octet n small =
    let numeral : IsNumeral (decimal n) n = decimal-IsNumeral n (omega arith) in
    let value : decimal_value (decimal n) ≡ n = numeral.value in
    record {
      numeral = record { numeral = record { some = numeral.some; digits = numeral.digits; value = refl }; within = omega arith };
      short = length-decimal-le 3 n (omega arith) (omega arith) (omega arith);
    }

octet_value : (n : ℕ) → n < 256 → decimal_value (decimal n) ≡ n
octet_value n small = (decimal-IsNumeral n (omega arith)).value

four_bytes : (a : ℕ) → a ≡ 2 ^ 24 * (a / 2 ^ 24) + 2 ^ 16 * (a / 2 ^ 16 % 256) + 2 ^ 8 * (a / 2 ^ 8 % 256) + a % 256
four_bytes a = omega arith

-- an address in dotted decimal stands for it
pub dotted-IsAddressWord : (a : ℕ) → a < 2 ^ 32 → IsAddressWord (dotted a) a
dotted-IsAddressWord a fits =
    let first : a / 2 ^ 24 < 256 = omega arith in
    let second : a / 2 ^ 16 % 256 < 256 = omega arith in
    let third : a / 2 ^ 8 % 256 < 256 = omega arith in
    let fourth : a % 256 < 256 = omega arith in
    record {
      first = decimal (a / 2 ^ 24);
      second = decimal (a / 2 ^ 16 % 256);
      third = decimal (a / 2 ^ 8 % 256);
      fourth = decimal (a % 256);
      joined = simp append_assoc;
      first_octet = octet (a / 2 ^ 24) first;
      second_octet = octet (a / 2 ^ 16 % 256) second;
      third_octet = octet (a / 2 ^ 8 % 256) third;
      fourth_octet = octet (a % 256) fourth;
      value =
          rw (octet_value (a / 2 ^ 24) first, octet_value (a / 2 ^ 16 % 256) second, octet_value (a / 2 ^ 8 % 256) third, octet_value (a % 256) fourth)
          (four_bytes a);
    }

-- two words with a mark between them, a byte of a word, are a word
pub marked-IsPrintedWord :
    (one other : List ℕ) (mark : ℕ) → IsWordByte mark → IsPrintedWord one → IsPrintedWord other → IsPrintedWord (one ++ mark ∷ other)
marked-IsPrintedWord one other mark byte first second = record {
  some = omega (arith, length-append one (mark ∷ other), first.some);
  bytes = All-append IsWordByte one (mark ∷ other) first.bytes (All-cons IsWordByte mark other byte second.bytes);
}

with_dot : (one other : List ℕ) → IsPrintedWord one → IsPrintedWord other → IsPrintedWord (one ++ 46 ∷ other)
with_dot one other first second = marked-IsPrintedWord one other 46 (IsWordByte-above_blank 46 (omega arith)) first second

byte_word : (n : ℕ) → n < 256 → IsPrintedWord (decimal n)
byte_word n small = decimal-IsPrintedWord n (omega arith)

pub dotted-IsPrintedWord : (a : ℕ) → a < 2 ^ 32 → IsPrintedWord (dotted a)
dotted-IsPrintedWord a fits =
    let one : IsPrintedWord (decimal (a / 2 ^ 24)) = byte_word (a / 2 ^ 24) (omega arith) in
    let two : IsPrintedWord (decimal (a / 2 ^ 16 % 256)) = byte_word (a / 2 ^ 16 % 256) (omega arith) in
    let three : IsPrintedWord (decimal (a / 2 ^ 8 % 256)) = byte_word (a / 2 ^ 8 % 256) (omega arith) in
    let four : IsPrintedWord (decimal (a % 256)) = byte_word (a % 256) (omega arith) in
    with_dot _ _ (with_dot _ _ (with_dot _ _ one two) three) four

-- an address in dotted decimal reads as this address
pub addresses_read_back : AddressesReadBack
addresses_read_back a fits =
    let stands : IsAddressWord (dotted a) a = dotted-IsAddressWord a fits in (
      dotted-IsPrintedWord a fits,
      record {
        stands = stands;
        answer = one_reading (IsAddressWord (dotted a)) a stands (λ b other. IsAddressWord-unique (dotted a) b a other stands);
      },
    )
