-- A mask of `len` ones is what lacks a block of that length to all 32 bits.
use Rattle.std.proofs.lemmas.Grind.{common_steps}
use Rattle.std.proofs.Common.{◌≡◌, ℕ, ◌+◌, ◌-◌, ◌*◌, ◌/◌, ◌%◌, ◌^◌, ◌<◌, ◌≤◌, List, arith, sym, subst, Option, Some, None, ◌∙◌}
use Rattle.std.proofs.lemmas.Nat.{pow_pos, div-mul-add, mod-mul-add}
use Rattle.net_addr.specs.AddressWords.{IsAddressWord, IsMask, IsMaskWord}
use Rattle.net_addr.specs.Readers.{Reads}
use Rattle.net_addr.proofs.AddressWordFacts.{IsAddressWord-unique}
use Rattle.net_addr.proofs.BoundaryFacts.{whole_space}

filled : (a n m : ℕ) → 0 < n → 0 < m → a / n ≡ m - 1 → a % n ≡ 0 → a + n ≡ m * n
filled a n m pos some ones zeros = grind (arith, common_steps)

unfilled : (a n m : ℕ) → 0 < n → 0 < m → a + n ≡ m * n → (a / n ≡ m - 1) × (a % n ≡ 0)
unfilled a n m pos some e = grind (arith, common_steps, div-mul-add, mod-mul-add)

pub IsMask-sum : (a len : ℕ) → IsMask a len → a + 2 ^ (32 - len) ≡ 2 ^ 32
IsMask-sum a len mask =
    filled a (2 ^ (32 - len)) (2 ^ len) (pow_pos (32 - len)) (pow_pos len) mask.ones mask.zeros ∙ whole_space len mask.most

pub IsMask-from_sum : (a len : ℕ) → 1 ≤ len → len ≤ 32 → a + 2 ^ (32 - len) ≡ 2 ^ 32 → IsMask a len
IsMask-from_sum a len some most e =
    let parts : (a / 2 ^ (32 - len) ≡ 2 ^ len - 1) × (a % 2 ^ (32 - len) ≡ 0) =
    unfilled a (2 ^ (32 - len)) (2 ^ len) (pow_pos (32 - len)) (pow_pos len) (e ∙ sym (whole_space len most)) in
    record { some = some; most = most; ones = parts.0; zeros = parts.1 }

-- a word that is the address a stands for the count of ones of a
pub Reads-mask : (word : List ℕ) (a : ℕ) (r : Option ℕ) → IsAddressWord word a → Reads r (IsMask a) → Reads r (IsMaskWord word)
Reads-mask word a None written none = λ len stands.
    none len (subst (λ (x : ℕ). IsMask x len) (IsAddressWord-unique word stands.address a stands.written written) stands.mask)
Reads-mask word a (Some len) written mask = record { address = a; written = written; mask = mask }
