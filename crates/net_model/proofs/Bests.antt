-- The least item that a list offers, element by element, and of things that say the same.
use Rattle.std.proofs.lemmas.Grind.{common_steps}
use Rattle.std.proofs.Common.{◌≡◌, ℕ, ◌+◌, ◌<◌, ◌≤◌, Bool, true, false, ◌||◌, ◌&&◌, nat_lt, nat_eq, if◌then◌else◌, List, [], ◌∷◌, ◌++◌, length, get_or}
use Rattle.std.proofs.Common.{take, Option}
use Rattle.std.proofs.Common.{Some, None, Any, min, sym, ap, ◌∙◌, subst, ◌⊎◌, ⊎_elim, arith}
use Rattle.std.proofs.lemmas.Bool.{cases_lt, cond_both}
use Rattle.std.proofs.lemmas.Bool.Decides.{nat_tests}
use Rattle.std.proofs.lemmas.List.{take_more}
use Rattle.std.proofs.lemmas.List.Quantifiers.{Any-push}
use Rattle.net_addr.specs.Addresses.{Block}
use Rattle.net_addr.proofs.SomeElement.{any_cases, any_left}
use Rattle.net_model.specs.Least.{IsBest, IsBlockAtMost, better_by}
use Rattle.net_model.specs.steps.Scans.{pick_block}
use Rattle.net_model.specs.steps.Subnets.{pick_longer}

-- a choice of the lesser of two items
pub record Picks {A : Type 0} (AtMost : A → A → Type 0) (pick : A → A → A) : Type 0 where
  pub one_of : (a b : A) → (pick a b ≡ a) ⊎ (pick a b ≡ b)
  pub left : (a b c : A) → AtMost a c → AtMost (pick a b) c
  pub right : (a b c : A) → AtMost b c → AtMost (pick a b) c

-- the best of what P or Q offers
module _ {A : Type 0} (AtMost : A → A → Type 0) where
  pub IsBest-same : (P Q : A → Type 0) (best : Option A) → ((a : A) → P a → Q a) → ((a : A) → Q a → P a) → IsBest AtMost P best → IsBest AtMost Q best
  IsBest-same P Q None to back h = λ a q. h a (back a q)
  IsBest-same P Q (Some b) to back h = record { holds = to b h.holds; least = λ a q. h.least a (back a q) }

  IsBest-or : (pick : A → A → A) → Picks AtMost pick → (P Q R : A → Type 0) (a b : Option A) → ((x : A) → P x → R x) → ((x : A) → Q x → R x) →
      ((x : A) → R x → P x ⊎ Q x) → IsBest AtMost P a → IsBest AtMost Q b → IsBest AtMost R (better_by pick a b)
  IsBest-or pick picks P Q R None None p q r h k = λ x c. ⊎_elim (h x) (k x) (r x c)
  IsBest-or pick picks P Q R None (Some b) p q r h k = record {
    holds = q b k.holds;
    least = λ x c. ⊎_elim (λ l. absurd (h x l)) (k.least x) (r x c);
  }
  IsBest-or pick picks P Q R (Some a) None p q r h k = record {
    holds = p a h.holds;
    least = λ x c. ⊎_elim (h.least x) (λ l. absurd (k x l)) (r x c);
  }
  IsBest-or pick picks P Q R (Some a) (Some b) p q r h k = record {
    holds = ⊎_elim (λ e. subst R (sym e) (p a h.holds)) (λ e. subst R (sym e) (q b k.holds)) (picks.one_of a b);
    least = λ x c. ⊎_elim (λ l. picks.left a b x (h.least x l)) (λ l. picks.right a b x (k.least x l)) (r x c);
  }

-- the best that the elements of a list offer
module _ {X A : Type 0} (AtMost : A → A → Type 0) (pick : A → A → A) (picks : Picks AtMost pick) (Offer : A → X → Type 0) where
  pub IsBest-more : (xs : List X) (i : ℕ) (x : X) (a b new : Option A) → i < length xs → x ≡ get_or xs i x → new ≡ better_by pick a b →
      IsBest AtMost (λ z. Any (Offer z) (take i xs)) a → IsBest AtMost (λ z. Offer z x) b → IsBest AtMost (λ z. Any (Offer z) (take (i + 1) xs)) new
  IsBest-more xs i x a b new l e is h k =
      let P : List X → Type 0 = λ ys. IsBest AtMost (λ z. Any (Offer z) ys) new in
      subst P (ap (λ y. take i xs ++ y ∷ []) e ∙ sym (take_more xs i x l)) (subst (IsBest AtMost (λ z. Any (Offer z) (take i xs ++ x ∷ []))) (sym is)
      (IsBest-or AtMost pick picks (λ z. Any (Offer z) (take i xs)) (λ z. Offer z x) (λ z. Any (Offer z) (take i xs ++ x ∷ [])) a b
      (λ z c. any_left (Offer z) (take i xs) x c) (λ z c. Any-push (Offer z) (take i xs) x c) (λ z c. any_cases (Offer z) (take i xs) x c) h k))

-- the lower of two numbers
pub picks_lower : Picks (λ (a b : ℕ). a ≤ b) min
picks_lower = grind (arith, common_steps, cases_lt)

-- of two prefixes the second where a test passes, which it does where the second is the lesser
picks_tested : (AtMost : Block → Block → Type 0) (second : Block → Block → Bool) →
    ((p q r : Block) → second p q ≡ true → AtMost p r → AtMost q r) → ((p q r : Block) → second p q ≡ false → AtMost q r → AtMost p r) →
    Picks AtMost (λ p q. if second p q then q else p)
picks_tested AtMost second passes fails = grind (arith, common_steps, cond_both)

pub picks_block : Picks IsBlockAtMost pick_block
picks_block = picks_tested IsBlockAtMost (λ p q. nat_lt q.base p.base || (nat_eq q.base p.base && nat_lt q.len p.len))
    (λ p q r e h. grind (arith, nat_tests)) (λ p q r e h. grind (arith, nat_tests))

pub picks_longer : Picks (λ (p q : Block). q.len ≤ p.len) pick_longer
picks_longer = picks_tested (λ p q. q.len ≤ p.len) (λ p q. nat_lt p.len q.len) (λ p q r e h. grind (arith, nat_tests)) (λ p q r e h. grind (arith, nat_tests))
