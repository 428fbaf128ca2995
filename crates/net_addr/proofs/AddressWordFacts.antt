-- A word is cut at its first dot in one way only, so it stands for at most one address.
use Rattle.std.proofs.lemmas.Grind.{common_steps}
use Rattle.std.proofs.Common.{◌≡◌, ◌≢◌, ℕ, suc, min, ◌+◌, ◌<◌, List, [], ◌∷◌, ◌++◌, length, take, drop, get_or, arith, refl, sym, ap, ◌∙◌, length-append}
use Rattle.std.specs.List.{All, AllByRecursion}
use Rattle.std.specs.Char.{IsAsciiDigit}
use Rattle.std.proofs.lemmas.List.{take-append-drop, drop_more, length-take, get_or-take, get_or_at, get_or_default}
use Rattle.std.proofs.lemmas.List.Elements.{recursion_from_All}
use Rattle.net_addr.specs.Numerals.{decimal_value}
use Rattle.net_addr.specs.AddressWords.{IsOctet, IsAddressWord}
use Rattle.net_addr.specs.steps.Octets.{CutsOctet}

-- no byte of the word is a dot
abbrev pub NoDot : List ℕ → Type 0
NoDot word = AllByRecursion (λ b. b ≢ 46) word

NoDot-digits : (word : List ℕ) → All IsAsciiDigit word → NoDot word
NoDot-digits word digits = grind (arith, common_steps, recursion_from_All)

no_dot : {word : List ℕ} → IsOctet word → NoDot word
no_dot {word} octet = NoDot-digits word octet.numeral.numeral.digits

-- a word is cut at its first dot in one way
pub cut_unique : (p r q s : List ℕ) → NoDot p → NoDot q → p ++ 46 ∷ r ≡ q ++ 46 ∷ s → (p ≡ q) × (r ≡ s)
cut_unique [] r [] s hp hq e = (refl, cc)
cut_unique [] r (y ∷ q) s hp hq e = absurd (hq.0 (cc))
cut_unique (x ∷ p) r [] s hp hq e = absurd (hp.0 (cc))
cut_unique (x ∷ p) r (y ∷ q) s hp hq e =
    let tails : p ++ 46 ∷ r ≡ q ++ 46 ∷ s = cc in
    let same : (p ≡ q) × (r ≡ s) = cut_unique p r q s hp.1 hq.1 tails in
    (cc, same.1)

-- a word without a dot is no octet and dot
pub no_dot_no_cut : (word part rest : List ℕ) → All (λ b. b ≢ 46) word → word ≢ part ++ 46 ∷ rest
no_dot_no_cut word part rest none e =
    let long : length word ≡ length part + suc (length rest) = ap length e ∙ length-append part (46 ∷ rest) in
    let dot : get_or word (length part) 0 ≡ 46 = ap (λ (w : List ℕ). get_or w (length part) 0) e ∙ get_or_at part 46 rest 0 (length part) refl in
    none (length part) 0 (omega arith) dot

NoDot-take : (word : List ℕ) (i : ℕ) → ((k : ℕ) → k < i → get_or word k 0 ≢ 46) → All (λ b. b ≢ 46) (take i word)
NoDot-take word i before k d below e =
    let short : length (take i word) ≡ min i (length word) = length-take i word in
    let inside : k < i = omega arith in
    let real : k < length word = omega arith in
    before k inside (get_or_default word k 0 d real ∙ sym (get_or-take i word k d inside) ∙ e)

-- what stands before the first dot is the only part that can be cut off
pub cut_at_dot : (word part rest : List ℕ) (i : ℕ) → i < length word → get_or word i 0 ≡ 46 → ((k : ℕ) → k < i → get_or word k 0 ≢ 46) →
    IsOctet part → word ≡ part ++ 46 ∷ rest → part ≡ take i word
cut_at_dot word part rest i within dot before octet e =
    let here : word ≡ take i word ++ 46 ∷ drop (i + 1) word =
    sym (take-append-drop i word) ∙ ap (λ (w : List ℕ). take i word ++ w) (drop_more word i 0 within ∙ ap (λ (b : ℕ). b ∷ drop (i + 1) word) dot) in
    let clear : NoDot (take i word) = recursion_from_All (λ b. b ≢ 46) (take i word) (NoDot-take word i before) in
    (cut_unique part rest (take i word) (drop (i + 1) word) (no_dot octet) clear (sym e ∙ here)).0

-- what follows an octet and a dot is the same for each way to read them
pub same_rest : (word : List ℕ) (n : ℕ) (rest : List ℕ) → CutsOctet word n rest → (part more : List ℕ) → IsOctet part → word ≡ part ++ 46 ∷ more →
    (n ≡ decimal_value part) × (rest ≡ more)
same_rest word n rest cut part more octet e =
    let same : (cut.part ≡ part) × (rest ≡ more) =
    cut_unique cut.part rest part more (no_dot cut.octet) (no_dot octet) (sym cut.joined ∙ e) in
    (cut.value_is ∙ ap decimal_value same.0, same.1)

-- a word stands for at most one address
pub IsAddressWord-unique : (word : List ℕ) (a b : ℕ) → IsAddressWord word a → IsAddressWord word b → a ≡ b
IsAddressWord-unique word a b x y =
    let one : (x.first ≡ y.first) × (x.second ++ 46 ∷ (x.third ++ 46 ∷ x.fourth) ≡ y.second ++ 46 ∷ (y.third ++ 46 ∷ y.fourth)) =
    cut_unique x.first (x.second ++ 46 ∷ (x.third ++ 46 ∷ x.fourth)) y.first (y.second ++ 46 ∷ (y.third ++ 46 ∷ y.fourth)) (no_dot x.first_octet)
    (no_dot y.first_octet) (sym x.joined ∙ y.joined) in
    let two : (x.second ≡ y.second) × (x.third ++ 46 ∷ x.fourth ≡ y.third ++ 46 ∷ y.fourth) =
    cut_unique x.second (x.third ++ 46 ∷ x.fourth) y.second (y.third ++ 46 ∷ y.fourth) (no_dot x.second_octet) (no_dot y.second_octet) one.1 in
    let three : (x.third ≡ y.third) × (x.fourth ≡ y.fourth) =
    cut_unique x.third x.fourth y.third y.fourth (no_dot x.third_octet) (no_dot y.third_octet) two.1 in
    omega (arith, x.value, y.value, ap decimal_value one.0, ap decimal_value two.0, ap decimal_value three.0, ap decimal_value three.1)

-- what is left after one, two and three cuts of an address
pub rest_one : (word : List ℕ) (n : ℕ) (rest : List ℕ) (a : ℕ) → CutsOctet word n rest → (x : IsAddressWord word a) →
    rest ≡ x.second ++ 46 ∷ (x.third ++ 46 ∷ x.fourth)
rest_one word n rest a cut x = (same_rest word n rest cut x.first (x.second ++ 46 ∷ (x.third ++ 46 ∷ x.fourth)) x.first_octet x.joined).1

pub rest_two : (word : List ℕ) (n : ℕ) (rest : List ℕ) (m : ℕ) (later : List ℕ) (a : ℕ) → CutsOctet word n rest → CutsOctet rest m later →
    (x : IsAddressWord word a) → later ≡ x.third ++ 46 ∷ x.fourth
rest_two word n rest m later a cut next x =
    (same_rest rest m later next x.second (x.third ++ 46 ∷ x.fourth) x.second_octet (rest_one word n rest a cut x)).1

pub rest_three : (word : List ℕ) (n : ℕ) (rest : List ℕ) (m : ℕ) (later : List ℕ) (k : ℕ) (last : List ℕ) (a : ℕ) → CutsOctet word n rest →
    CutsOctet rest m later → CutsOctet later k last → (x : IsAddressWord word a) → last ≡ x.fourth
rest_three word n rest m later k last a cut next third x =
    (same_rest later k last third x.third x.fourth x.third_octet (rest_two word n rest m later a cut next x)).1
