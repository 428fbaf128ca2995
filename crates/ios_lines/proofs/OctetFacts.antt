-- Octets, cut off one after the other, against the address of a word.
use Rattle.std.proofs.Common.{arith}
use Rattle.std.proofs.lemmas.Grind.{common_steps}
use Rattle.std.proofs.Common.{◌≡◌, ℕ, ◌+◌, ◌*◌, true, false, ◌||◌, [], ◌∷◌, get_or, length, drop, Option, Some, None, refl, ◌⊎◌}
use Rattle.std.proofs.Common.{inl, inr}
use Rattle.std.specs.Prelude.{is_none, nat_eq}
use Rattle.std.specs.List.{before_first, after_first}
use Rattle.std.proofs.lemmas.Bool.Decides.{nat_tests}
use Rattle.ios_lines.specs.Words.{Word, is_dot, octet_of, joined_octets, address_of}
use Rattle.ios_lines.specs.steps.Octets.{lacks_octet}

-- the first dot is the second byte
pub cut_at_one : (bytes : Word) → is_dot (get_or bytes 1 0) ≡ true → is_dot (get_or bytes 0 0) ≡ false →
    (before_first is_dot bytes ≡ get_or bytes 0 0 ∷ []) × (after_first is_dot bytes ≡ drop 2 bytes)
cut_at_one [] dot first = absurd cc
cut_at_one (a ∷ []) dot first = absurd cc
cut_at_one (a ∷ b ∷ bs) dot first = grind (arith, common_steps)

-- no dot stands among the first bytes
pub no_cut : (bytes : Word) → is_dot (get_or bytes 1 0) ≡ false → is_dot (get_or bytes 2 0) ≡ false →
    is_dot (get_or bytes 3 0) ≡ false →
    lacks_octet bytes ≡ true
no_cut [] one two three = refl
no_cut (a ∷ []) one two three = grind (arith, common_steps)
no_cut (a ∷ b ∷ []) one two three = grind (arith, common_steps)
no_cut (a ∷ b ∷ c ∷ []) one two three = grind (arith, common_steps)
no_cut (a ∷ b ∷ c ∷ d ∷ bs) one two three = grind (arith, common_steps)

-- the first dot is the third byte
pub cut_at_two : (bytes : Word) → is_dot (get_or bytes 2 0) ≡ true → is_dot (get_or bytes 0 0) ≡ false →
    is_dot (get_or bytes 1 0) ≡ false →
    (before_first is_dot bytes ≡ get_or bytes 0 0 ∷ get_or bytes 1 0 ∷ []) × (after_first is_dot bytes ≡ drop 3 bytes)
cut_at_two [] dot first second = absurd cc
cut_at_two (a ∷ []) dot first second = absurd cc
cut_at_two (a ∷ b ∷ []) dot first second = absurd cc
cut_at_two (a ∷ b ∷ c ∷ bs) dot first second = grind (arith, common_steps)

-- the first dot is the fourth byte
pub cut_at_three : (bytes : Word) → is_dot (get_or bytes 3 0) ≡ true → is_dot (get_or bytes 0 0) ≡ false →
    is_dot (get_or bytes 1 0) ≡ false →
    is_dot (get_or bytes 2 0) ≡ false →
    (before_first is_dot bytes ≡ get_or bytes 0 0 ∷ get_or bytes 1 0 ∷ get_or bytes 2 0 ∷ []) × (after_first is_dot bytes ≡ drop 4 bytes)
cut_at_three [] dot first second third = absurd cc
cut_at_three (a ∷ []) dot first second third = absurd cc
cut_at_three (a ∷ b ∷ []) dot first second third = absurd cc
cut_at_three (a ∷ b ∷ c ∷ []) dot first second third = absurd cc
cut_at_three (a ∷ b ∷ c ∷ d ∷ bs) dot first second third = grind (arith, common_steps)

none_of_first : (b c d : Option ℕ) → joined_octets None b c d ≡ None
none_of_first b c d = refl

none_of_second : (a c d : Option ℕ) → joined_octets a None c d ≡ None
none_of_second None c d = refl
none_of_second (Some a) c d = refl

none_of_third : (a b d : Option ℕ) → joined_octets a b None d ≡ None
none_of_third None b d = refl
none_of_third (Some a) None d = refl
none_of_third (Some a) (Some b) d = refl

none_of_fourth : (a b c : Option ℕ) → joined_octets a b c None ≡ None
none_of_fourth None b c = refl
none_of_fourth (Some a) None c = refl
none_of_fourth (Some a) (Some b) None = refl
none_of_fourth (Some a) (Some b) (Some c) = refl

is_nothing : (bytes : Word) → nat_eq (length bytes) 0 ≡ true → bytes ≡ []
is_nothing [] none = refl
is_nothing (b ∷ bs) none = grind (arith, common_steps, nat_tests)

-- where an octet lacks, it or the one behind it is none
either : (word : Word) → lacks_octet word ≡ true → (octet_of (before_first is_dot word) ≡ None) ⊎ (after_first is_dot word ≡ [])
either word lacks = cases (octet_of (before_first is_dot word)) refl lacks
  where
    cases : (o : Option ℕ) → octet_of (before_first is_dot word) ≡ o →
        (is_none o || nat_eq (length (after_first is_dot word)) 0) ≡ true →
        (octet_of (before_first is_dot word) ≡ None) ⊎ (after_first is_dot word ≡ [])
    cases None e h = inl e
    cases (Some n) e h = inr (is_nothing (after_first is_dot word) h)

pub lacks_first : (word : Word) → lacks_octet word ≡ true → address_of word ≡ None
unfolding address_of
lacks_first word lacks = grind (arith, either, none_of_first, none_of_second)

pub lacks_second : (word : Word) → lacks_octet (after_first is_dot word) ≡ true → address_of word ≡ None
unfolding address_of
lacks_second word lacks = grind (arith, either, none_of_second, none_of_third)

pub lacks_third : (word : Word) → lacks_octet (after_first is_dot (after_first is_dot word)) ≡ true → address_of word ≡ None
unfolding address_of
lacks_third word lacks = grind (arith, either, none_of_third, none_of_fourth)

pub lacks_fourth : (word : Word) → octet_of (after_first is_dot (after_first is_dot (after_first is_dot word))) ≡ None →
    address_of word ≡ None
unfolding address_of
lacks_fourth word lacks = grind (arith, none_of_fourth)

pub four_octets : (word : Word) (a b c d : ℕ) → octet_of (before_first is_dot word) ≡ Some a →
    octet_of (before_first is_dot (after_first is_dot word)) ≡ Some b →
    octet_of (before_first is_dot (after_first is_dot (after_first is_dot word))) ≡ Some c →
    octet_of (after_first is_dot (after_first is_dot (after_first is_dot word))) ≡ Some d →
    address_of word ≡ Some ((a * 256 + b) * 65536 + (c * 256 + d))
unfolding address_of
four_octets word a b c d first second third fourth = grind arith
