-- Addresses as words, against the function of the word.
use Rattle.std.proofs.Common.{sym, ◌≡◌, ℕ, suc, ◌+◌, ◌*◌, ◌^◌, ◌<◌, ◌≤◌, Bool, true, false, [], ◌∷◌, ◌++◌, length, take, drop, Option, Some, None, refl, ap}
use Rattle.std.proofs.Common.{subst, ◌∙◌, cond, arith, get_or, length-drop, length-append, drop-cons, add-one, append_assoc}
use Rattle.std.specs.List.{before_first, after_first, position_or_len}
use Rattle.std.proofs.lemmas.Bool.Decides.{nat_tests}
use Rattle.std.proofs.lemmas.List.{take-append-drop}
use Rattle.std.proofs.lemmas.List.Sums.{position_or_len_is, passes_at_first}
use Rattle.std.proofs.lemmas.Grind.{common_steps}
use Rattle.std.proofs.Math.Seq.{take-append_seam, drop-append_seam}
use Rattle.net_addr.specs.Numerals.{decimal_value}
use Rattle.net_addr.specs.AddressWords.{IsOctet, IsAddressWord}
use Rattle.ios_lines.specs.Words.{Word, is_dot, octet_of, joined_octets, address_of}
use Rattle.ios_lines.proofs.NumberFacts.{number-some, number_back, le_test, test_le}

digit_no_dot : (b : ℕ) → 48 ≤ b → is_dot b ≡ false
digit_no_dot b h = grind (arith, nat_tests)

dot_is : (b : ℕ) → is_dot b ≡ true → b ≡ 46
dot_is b h = grind (arith, nat_tests)

-- where an octet ends with a dot, the first dot is there
first_dot : (part rest : Word) → IsOctet part → position_or_len is_dot (part ++ 46 ∷ rest) ≡ length part
first_dot part rest octet =
    position_or_len_is is_dot (part ++ 46 ∷ rest) (length part) 0
    (omega (arith, length-append part (46 ∷ rest)))
    (λ k h. let same : get_or (part ++ 46 ∷ rest) k 0 ≡ get_or part k 0 = grind (arith, common_steps) in
    ap is_dot same ∙ digit_no_dot (get_or part k 0) (octet.numeral.numeral.digits k 0 h).0)
    (λ h. let same : get_or (part ++ 46 ∷ rest) (length part) 0 ≡ 46 = grind (arith, common_steps) in ap is_dot same)

before_dot : (part rest : Word) → IsOctet part → before_first is_dot (part ++ 46 ∷ rest) ≡ part
before_dot part rest octet = ap (λ (n : ℕ). take n (part ++ 46 ∷ rest)) (first_dot part rest octet) ∙ take-append_seam part (46 ∷ rest)

after_dot : (part rest : Word) → IsOctet part → after_first is_dot (part ++ 46 ∷ rest) ≡ rest
after_dot part rest octet =
    let n : length (part ++ 46 ∷ []) ≡ length part + 1 = length-append part (46 ∷ []) in
    ap (λ (n : ℕ). drop (n + 1) (part ++ 46 ∷ rest)) (first_dot part rest octet)
    ∙ ap (λ (n : ℕ). drop n (part ++ 46 ∷ rest)) (sym n)
    ∙ ap (λ (w : Word). drop (length (part ++ 46 ∷ [])) w) (sym (append_assoc part (46 ∷ []) rest))
    ∙ drop-append_seam (part ++ 46 ∷ []) rest

-- where something stands after the first dot, that dot cuts the word
cut_word : (word : Word) → 0 < length (after_first is_dot word) → word ≡ before_first is_dot word ++ 46 ∷ after_first is_dot word
cut_word word h =
    let n : ℕ = position_or_len is_dot word in
    let within : position_or_len is_dot word < length word = omega (arith, h, length-drop (position_or_len is_dot word + 1) word) in
    let dot : get_or word (position_or_len is_dot word) 0 ≡ 46 = dot_is _ (passes_at_first is_dot word 0 within) in
    let after : drop (position_or_len is_dot word) word ≡ 46 ∷ drop (position_or_len is_dot word + 1) word =
    drop-cons word (position_or_len is_dot word) 0 within ∙ ap (λ (b : ℕ). b ∷ drop (suc (position_or_len is_dot word)) word) dot ∙ rw add-one refl in
    sym (take-append-drop (position_or_len is_dot word) word) ∙ ap (λ (w : Word). take (position_or_len is_dot word) word ++ w) after

octet-some : (word : Word) → IsOctet word → octet_of word ≡ Some (decimal_value word)
octet-some word h = grind (arith, common_steps, number-some, test_le)

octet_taken : (t : Bool) (o : Option ℕ) (n : ℕ) → cond t o None ≡ Some n → (t ≡ true) × (o ≡ Some n)
octet_taken t o n e = grind (arith, common_steps)

octet_back : (word : Word) (n : ℕ) → octet_of word ≡ Some n → IsOctet word × (decimal_value word ≡ n)
octet_back word n e = grind (arith, common_steps, le_test, number_back, octet_taken)

joined-some : (a b c d : Option ℕ) (w x y z : ℕ) → a ≡ Some w → b ≡ Some x → c ≡ Some y → d ≡ Some z → joined_octets a b c d
    ≡ Some (2 ^ 24 * w + 2 ^ 16 * x + 2 ^ 8 * y + z)
joined-some a b c d w x y z e f g h = rw (e, f, g, h) refl

record FourOctets (a b c d : Option ℕ) (n : ℕ) : Type 0 where
  w : ℕ
  x : ℕ
  y : ℕ
  z : ℕ
  first : a ≡ Some w
  second : b ≡ Some x
  third : c ≡ Some y
  fourth : d ≡ Some z
  value : n ≡ 2 ^ 24 * w + 2 ^ 16 * x + 2 ^ 8 * y + z

joined_back : (a b c d : Option ℕ) (n : ℕ) → joined_octets a b c d ≡ Some n → FourOctets a b c d n
joined_back a b c d n e = grind arith

pub address-some : (word : Word) (a : ℕ) → IsAddressWord word a → address_of word ≡ Some a
unfolding address_of
address-some word a h =
    let second : Word = h.second ++ 46 ∷ (h.third ++ 46 ∷ h.fourth) in
    let rest1 : after_first is_dot word ≡ h.second ++ 46 ∷ (h.third ++ 46 ∷ h.fourth) =
    ap (after_first is_dot) h.joined ∙ after_dot h.first (h.second ++ 46 ∷ (h.third ++ 46 ∷ h.fourth)) h.first_octet in
    let rest2 : after_first is_dot (after_first is_dot word) ≡ h.third ++ 46 ∷ h.fourth =
    ap (after_first is_dot) rest1 ∙ after_dot h.second (h.third ++ 46 ∷ h.fourth) h.second_octet in
    let rest3 : after_first is_dot (after_first is_dot (after_first is_dot word)) ≡ h.fourth =
    ap (after_first is_dot) rest2 ∙ after_dot h.third h.fourth h.third_octet in
    let part1 : before_first is_dot word ≡ h.first = ap (before_first is_dot) h.joined
    ∙ before_dot h.first (h.second ++ 46 ∷ (h.third ++ 46 ∷ h.fourth)) h.first_octet in
    let part2 : before_first is_dot (after_first is_dot word) ≡ h.second =
    ap (before_first is_dot) rest1 ∙ before_dot h.second (h.third ++ 46 ∷ h.fourth) h.second_octet in
    let part3 : before_first is_dot (after_first is_dot (after_first is_dot word)) ≡ h.third =
    ap (before_first is_dot) rest2 ∙ before_dot h.third h.fourth h.third_octet in
    joined-some _ _ _ _ (decimal_value h.first) (decimal_value h.second) (decimal_value h.third) (decimal_value h.fourth)
    (ap octet_of part1 ∙ octet-some h.first h.first_octet)
    (ap octet_of part2 ∙ octet-some h.second h.second_octet)
    (ap octet_of part3 ∙ octet-some h.third h.third_octet)
    (ap octet_of rest3 ∙ octet-some h.fourth h.fourth_octet)
    ∙ ap Some (sym h.value)

pub address_back : (word : Word) (a : ℕ) → address_of word ≡ Some a → IsAddressWord word a
unfolding address_of
address_back word a e =
    let second : Word = after_first is_dot word in
    let third : Word = after_first is_dot second in
    let fourth : Word = after_first is_dot third in
    let four = joined_back (octet_of (before_first is_dot word)) (octet_of (before_first is_dot second)) (octet_of (before_first is_dot third))
    (octet_of fourth) a e in
    let one = octet_back (before_first is_dot word) four.w four.first in
    let two = octet_back (before_first is_dot second) four.x four.second in
    let three = octet_back (before_first is_dot third) four.y four.third in
    let last = octet_back fourth four.z four.fourth in
    let there3 : 0 < length fourth = last.0.numeral.numeral.some in
    let cut3 = cut_word third there3 in
    let there2 : 0 < length third = subst (λ (w : Word). 0 < length w) (sym cut3) (omega (arith, length-append (before_first is_dot third) (46 ∷ fourth))) in
    let cut2 = cut_word second there2 in
    let there1 : 0 < length second = subst (λ (w : Word). 0 < length w) (sym cut2) (omega (arith, length-append (before_first is_dot second) (46 ∷ third))) in
    let cut1 = cut_word word there1 in
    let from2 : second ≡ before_first is_dot second ++ 46 ∷ (before_first is_dot third ++ 46 ∷ fourth) =
    cut2 ∙ ap (λ (w : Word). before_first is_dot second ++ 46 ∷ w) cut3 in
    record {
      first = before_first is_dot word;
      second = before_first is_dot second;
      third = before_first is_dot third;
      fourth = fourth;
      joined = cut1 ∙ ap (λ (w : Word). before_first is_dot word ++ 46 ∷ w) from2;
      first_octet = one.0;
      second_octet = two.0;
      third_octet = three.0;
      fourth_octet = last.0;
      value = four.value ∙ omega (arith, one.1, two.1, three.1, last.1);
    }

pub none_of : (o : Option ℕ) → ((n : ℕ) → o ≡ Some n → ⊥) → o ≡ None
none_of o h = grind (arith, common_steps)
