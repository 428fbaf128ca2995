-- The first pair that a scan finds is the least, and where it finds none no two routers clash.
use Rattle.std.proofs.lemmas.Grind.{common_steps}
use Rattle.std.proofs.Common.{◌≡◌, ℕ, ◌<◌, ◌≤◌, List, ⊎_elim, refl, sym, subst, arith}
use Rattle.std.proofs.lemmas.Option.{same_Some}
use Rattle.std.proofs.lemmas.Bool.{cases_lt, cases_order}
use Rattle.net_model.specs.Least.{ComesNoLater, IsLeastPair, NoneClash, Pairing}
use Rattle.net_model.specs.Least.ComesNoLater.{by_first, by_second, by_item}
use Rattle.net_model.specs.Lookups.{IsNamed}
use Rattle.net_model.specs.Network.{Network}
use Rattle.net_model.specs.RouterNames.{IsLeastNamedPair, IsLowestNamed}
use Rattle.net_model.specs.steps.Scans.{IsFirstPartner, IsMutual, NonePartner}

module _ {A : Type 0} (AtMost : A → A → Type 0) (Clash : ℕ → ℕ → A → Type 0) (count : ℕ) (ways : IsMutual Clash count) where
  pub IsLeastPair-first : (one two : ℕ) (item : A) → IsFirstPartner AtMost (Clash one) count one two item →
      ((u : ℕ) → u < one → NonePartner (Clash u) count u) → IsLeastPair AtMost Clash one two item
  IsLeastPair-first one two item partner none_before = record {
    ordered = partner.ordered;
    clash = partner.clash;
    least = λ u v other up c.
        ⊎_elim
        (λ same. of_one u v other (sym same) up c)
        (λ apart. ⊎_elim (λ l. absurd (none_before u l v other up (ways.within u v other c) c)) by_first apart)
        (cases_order u one);
  }
    where
      found : Pairing A
      found = record { one = one; two = two; item = item }

      of_two : (v : ℕ) (other : A) → two ≡ v → Clash one v other → ComesNoLater AtMost found (record { one = one; two = v; item = other })
      of_two v other e c = by_item refl e (partner.least other (subst (λ w. Clash one w other) (sym e) c))

      of_one : (u v : ℕ) (other : A) → one ≡ u → u ≤ v → Clash u v other → ComesNoLater AtMost found (record { one = u; two = v; item = other })
      of_one u v other e up c =
          let here = subst (λ w. Clash w v other) (sym e) c in
          subst (λ (w : ℕ). ComesNoLater AtMost found (record { one = w; two = v; item = other })) e
          (⊎_elim (λ same. of_two v other (sym same) here)
          (λ apart. ⊎_elim (λ l. absurd (partner.none_before v other (omega arith) l here)) (by_second refl) apart)
          (cases_order v two))

  pub NoneClash-from : ((u : ℕ) → u < count → NonePartner (Clash u) count u) → NoneClash Clash
  NoneClash-from none u v a c =
      let back = ways.back u v a c in
      let u_in = ways.within v u a back in
      let v_in = ways.within u v a c in
      ⊎_elim (λ l. none u u_in v a (omega arith) v_in c) (λ g. none v v_in u a g u_in back) (cases_lt u v)

ascending_same : {A : Type 0} → (AtMost : A → A → Type 0) (p q : Pairing A) → ((a b : A) → AtMost a b → AtMost b a → a ≡ b) →
    ComesNoLater AtMost p q → ComesNoLater AtMost q p → (p.one ≡ q.one) × (p.two ≡ q.two) × (p.item ≡ q.item)
ascending_same AtMost p q anti (by_first l) (by_first m) = absurd (omega arith)
ascending_same AtMost p q anti (by_first l) (by_second e m) = absurd (omega arith)
ascending_same AtMost p q anti (by_first l) (by_item e f m) = absurd (omega arith)
ascending_same AtMost p q anti (by_second e l) (by_first m) = absurd (omega arith)
ascending_same AtMost p q anti (by_second e l) (by_second f m) = absurd (omega arith)
ascending_same AtMost p q anti (by_second e l) (by_item f g m) = absurd (omega arith)
ascending_same AtMost p q anti (by_item e f l) (by_first m) = absurd (omega arith)
ascending_same AtMost p q anti (by_item e f l) (by_second g m) = absurd (omega arith)
ascending_same AtMost p q anti (by_item e f l) (by_item g h m) = (e, f, anti p.item q.item l m)

-- there is one least pair
pub IsLeastPair-unique : {A : Type 0} → (AtMost : A → A → Type 0) (Clash : ℕ → ℕ → A → Type 0) (u v : ℕ) (a : A) (w x : ℕ) (b : A) →
    ((a b : A) → AtMost a b → AtMost b a → a ≡ b) → IsLeastPair AtMost Clash u v a → IsLeastPair AtMost Clash w x b → (u ≡ w) × (v ≡ x) × (a ≡ b)
IsLeastPair-unique AtMost Clash u v a w x b anti h k = grind (arith, common_steps, ascending_same)

-- a router has one name
name-unique : (net : Network) (u v : ℕ) (a b : List ℕ) → IsNamed net a u → IsNamed net b v → u ≡ v → a ≡ b
name-unique net u v a b h k same = grind (arith, common_steps, same_Some)

-- the least pair has its names alone
pub IsLeastNamedPair-unique : {A : Type 0} → (AtMost : A → A → Type 0) (Clash : ℕ → ℕ → A → Type 0) (net : Network) (a b : List ℕ)
    (x : A) (c d : List ℕ) (y : A)
    → ((x y : A) → AtMost x y → AtMost y x → x ≡ y) → IsLeastNamedPair AtMost Clash net a b x → IsLeastNamedPair AtMost Clash net c d y →
    (a ≡ c) × (b ≡ d) × (x ≡ y)
IsLeastNamedPair-unique AtMost Clash net a b x c d y anti h k = grind (arith, common_steps, name-unique)

-- the lowest router has its name alone
pub IsLowestNamed-unique : (P : ℕ → Type 0) (net : Network) (a b : List ℕ) → IsLowestNamed P net a → IsLowestNamed P net b → a ≡ b
IsLowestNamed-unique P net a b h k = grind (arith, common_steps, name-unique)
