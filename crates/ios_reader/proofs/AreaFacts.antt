-- The laws of the ranges and stub areas of an OSPF process: of the values that replace one another the last one stays.
use Rattle.std.proofs.Common.{◌≡◌, ◌↔◌, ℕ, ◌⊎◌, inl, inr, Bool, true, false, ◌&&◌, cond, List, [], ◌∷◌, ◌++◌, nat_eq, refl, sym, ap, subst, ◌∙◌, arith}
use Rattle.std.specs.Prelude.{fold, filter_map, All, Contains}
use Rattle.std.specs.Cmp.{nat_eq_equiv}
use Rattle.std.proofs.lemmas.Bool.{false≢true, eqb-true}
use Rattle.std.proofs.lemmas.List.Elements.{All-nil, All-cons, All-head, All-tail, Contains-get_or, Contains-append_right, Contains-append_cases}
use Rattle.std.proofs.lemmas.List.Elements.{Contains-push_cases}
use Rattle.ios_lines.specs.Lookups.{replaced}
use Rattle.ios_lines.specs.declared.ospf_line.OspfStatement.{OspfStatement}
use Rattle.ios_lines.proofs.NumberFacts.{and_left, and_right}
use Rattle.ios_reader.specs.Routers.{range_said, is_same_range, stub_said, is_same_area}
use Rattle.ios_reader.specs.AreaLaws.{IsSaidLast, LastRangesLaw, LastStubLinesLaw}

-- a value is one of a list
abbrev Has : {A : Type 0} → List A → A → Type 0
Has [] value = ⊥
Has (x ∷ xs) value = (x ≡ value) ⊎ Has xs value

contained : {A : Type 0} (xs : List A) (value : A) → Has xs value → Contains xs value
contained [] value h = absurd h
contained (x ∷ xs) value (inl e) = subst (Contains (x ∷ xs)) e (Contains-get_or (x ∷ xs) 0 x (omega arith))
contained (x ∷ xs) value (inr h) = Contains-append_right (x ∷ []) xs value (contained xs value h)

has_contained : {A : Type 0} (xs : List A) (value : A) → Contains xs value → Has xs value
has_contained [] value c = absurd (omega (arith, c.1))
has_contained (x ∷ xs) value c =
    elim (Contains-append_cases (x ∷ []) xs value c) [
      | inl h ↦ elim (Contains-push_cases [] x value h) [ inl n ↦ absurd (omega (arith, n.1)) | inr e ↦ inl e ]
      | inr h ↦ inr (has_contained xs value h)
    ]

-- a test by which values are the same
record IsSameness {A : Type 0} (same : A → A → Bool) : Type 0 where
  swap : (x y : A) → same x y ≡ same y x
  through : (x y z : A) → same x y ≡ true → same x z ≡ same y z

module _ {A : Type 0} (same : A → A → Bool) (laws : IsSameness same) where
  abbrev NoneSame : A → List A → Type 0
  NoneSame value xs = All (λ (other : A). same other value ≡ false) xs

  -- no two values are the same
  abbrev AreApart : List A → Type 0
  AreApart [] = Unit {0}
  AreApart (x ∷ xs) = NoneSame x xs × AreApart xs

  none_in : (value other : A) (xs : List A) → NoneSame value xs → Has xs other → same other value ≡ false
  none_in value other [] none i = absurd i
  none_in value other (x ∷ xs) none (inl e) = subst (λ (y : A). same y value ≡ false) e (All-head (λ (o : A). same o value ≡ false) x xs none)
  none_in value other (x ∷ xs) none (inr i) = none_in value other xs (All-tail (λ (o : A). same o value ≡ false) x xs none) i

  none_same : (x y : A) (xs : List A) → same x y ≡ true → NoneSame x xs → NoneSame y xs
  none_same x y [] e none = All-nil (λ (o : A). same o y ≡ false)
  none_same x y (z ∷ zs) e none =
      All-cons (λ (o : A). same o y ≡ false) z zs
      (laws.swap z y ∙ sym (laws.through x y z e) ∙ laws.swap x z ∙ All-head (λ (o : A). same o x ≡ false) z zs none)
      (none_same x y zs e (All-tail (λ (o : A). same o x ≡ false) z zs none))

  none_replaced : (z x : A) (xs : List A) → same x z ≡ false → NoneSame z xs → NoneSame z (replaced same xs x)
  none_replaced z x [] e none = All-cons (λ (o : A). same o z ≡ false) x [] e (All-nil (λ (o : A). same o z ≡ false))
  none_replaced z x (y ∷ ys) e none = cases (same y x) (none_replaced z x ys e (All-tail (λ (o : A). same o z ≡ false) y ys none))
    where
      cases : (b : Bool) → NoneSame z (replaced same ys x) → NoneSame z (cond b (x ∷ ys) (y ∷ replaced same ys x))
      cases true rest = All-cons (λ (o : A). same o z ≡ false) x ys e (All-tail (λ (o : A). same o z ≡ false) y ys none)
      cases false rest = All-cons (λ (o : A). same o z ≡ false) y (replaced same ys x) (All-head (λ (o : A). same o z ≡ false) y ys none) rest

  -- they stay apart where one is replaced
  apart : (xs : List A) (x : A) → AreApart xs → AreApart (replaced same xs x)
  apart [] x a = (All-nil (λ (o : A). same o x ≡ false), tt)
  apart (y ∷ ys) x a = cases (same y x) refl (apart ys x a.1)
    where
      cases : (b : Bool) → same y x ≡ b → AreApart (replaced same ys x) → AreApart (cond b (x ∷ ys) (y ∷ replaced same ys x))
      cases true e rest = (none_same y x ys e a.0, a.1)
      cases false e rest = (none_replaced y x ys (laws.swap x y ∙ e) a.0, rest)

  -- what is there once one is replaced
  into : (xs : List A) (x value : A) → AreApart xs → Has (replaced same xs x) value → (x ≡ value) ⊎ (Has xs value × (same x value ≡ false))
  into [] x value a (inl e) = inl e
  into [] x value a (inr i) = absurd i
  into (y ∷ ys) x value a i = cases (same y x) refl (λ j. into ys x value a.1 j) i
    where
      cases : (b : Bool) → same y x ≡ b → (Has (replaced same ys x) value → (x ≡ value) ⊎ (Has ys value × (same x value ≡ false))) →
          Has (cond b (x ∷ ys) (y ∷ replaced same ys x)) value → (x ≡ value) ⊎ (Has (y ∷ ys) value × (same x value ≡ false))
      cases true e rest (inl s) = inl s
      cases true e rest (inr j) = inr (inr j, sym (laws.through y x value e) ∙ laws.swap y value ∙ none_in y value ys a.0 j)
      cases false e rest (inl s) = inr (inl s, laws.swap x value ∙ subst (λ (z : A). same z x ≡ false) s e)
      cases false e rest (inr j) =
          elim (rest j) [
            | inl s ↦ inl s
            | inr h ↦ inr (inr h.0, h.1)
          ]

  new_there : (xs : List A) (x : A) → Has (replaced same xs x) x
  new_there [] x = inl refl
  new_there (y ∷ ys) x = cases (same y x) (new_there ys x)
    where
      cases : (b : Bool) → Has (replaced same ys x) x → Has (cond b (x ∷ ys) (y ∷ replaced same ys x)) x
      cases true rest = inl refl
      cases false rest = inr rest

  old_there : (xs : List A) (x value : A) → Has xs value → same x value ≡ false → Has (replaced same xs x) value
  old_there [] x value i e = absurd i
  old_there (y ∷ ys) x value (inl s) e = cases (same y x) refl
    where
      cases : (b : Bool) → same y x ≡ b → Has (cond b (x ∷ ys) (y ∷ replaced same ys x)) value
      cases true t = absurd (false≢true (sym e ∙ laws.swap x value ∙ subst (λ (z : A). same z x ≡ true) s t))
      cases false t = inl s
  old_there (y ∷ ys) x value (inr i) e = cases (same y x) (old_there ys x value i e)
    where
      cases : (b : Bool) → Has (replaced same ys x) value → Has (cond b (x ∷ ys) (y ∷ replaced same ys x)) value
      cases true rest = inr i
      cases false rest = inr rest

  behind_one : (x : A) (xs : List A) (value : A) → IsSaidLast same xs value → IsSaidLast same (x ∷ xs) value
  behind_one x xs value l = record { before = x ∷ l.before; after = l.after; joined = ap (λ (ys : List A). x ∷ ys) l.joined; last = l.last }

  -- a value that stays was there and isn't replaced, or is the last one of its kind
  stays : (old xs : List A) (value : A) → AreApart old → Has (fold (replaced same) old xs) value →
      (Has old value × NoneSame value xs) ⊎ IsSaidLast same xs value
  stays old [] value a i = inl (i, All-nil (λ (o : A). same o value ≡ false))
  stays old (x ∷ xs) value a i =
      elim (stays (replaced same old x) xs value (apart old x a) i) [
        | inl h ↦ elim (into old x value a h.0) [
          | inl s ↦ inr (record { before = []; after = xs; joined = ap (λ (y : A). y ∷ xs) s; last = h.1 })
          | inr k ↦ inl (k.0, All-cons (λ (o : A). same o value ≡ false) x xs k.1 h.1)
        ]
        | inr l ↦ inr (behind_one x xs value l)
      ]

  kept : (old xs : List A) (value : A) → Has old value → NoneSame value xs → Has (fold (replaced same) old xs) value
  kept old [] value i none = i
  kept old (x ∷ xs) value i none =
      kept (replaced same old x) xs value (old_there old x value i (All-head (λ (o : A). same o value ≡ false) x xs none))
      (All-tail (λ (o : A). same o value ≡ false) x xs none)

  last_kept : (old before after : List A) (value : A) → NoneSame value after → Has (fold (replaced same) old (before ++ value ∷ after)) value
  last_kept old [] after value none = kept (replaced same old value) after value (new_there old value) none
  last_kept old (x ∷ before) after value none = last_kept (replaced same old x) before after value none

  -- of the values that replace one another the last one stays
  last_stays : (xs : List A) (value : A) → Contains (fold (replaced same) [] xs) value ↔ IsSaidLast same xs value
  last_stays xs value = (
    λ c. elim (stays [] xs value tt (has_contained (fold (replaced same) [] xs) value c)) [ inl h ↦ absurd h.0 | inr l ↦ l ],
    λ l.
        contained (fold (replaced same) [] xs) value
        (subst (λ (ys : List A). Has (fold (replaced same) [] ys) value) (sym l.joined) (last_kept [] l.before l.after value l.last)),
  )

number_through : (a b c : ℕ) → nat_eq a b ≡ true → nat_eq a c ≡ nat_eq b c
number_through a b c e = ap (λ (n : ℕ). nat_eq n c) (eqb-true a b e)

same_area : IsSameness is_same_area
same_area = record {
  swap = λ s t. nat_eq_equiv.symm s.area t.area;
  through = λ s t u. number_through s.area t.area u.area;
}

pub stub_lines_law : LastStubLinesLaw
stub_lines_law lines stub = last_stays is_same_area same_area (filter_map (λ (s : OspfStatement). stub_said s.says) lines) stub

abbrev all_same : Bool → Bool → Bool → Bool
all_same a b c = a && b && c

same_range : IsSameness is_same_range
same_range = record {
  swap = λ r s.
      ap (λ (b : Bool). all_same b (nat_eq r.dest.base s.dest.base) (nat_eq r.dest.len s.dest.len)) (nat_eq_equiv.symm r.area s.area)
      ∙ ap (λ (b : Bool). all_same (nat_eq s.area r.area) b (nat_eq r.dest.len s.dest.len)) (nat_eq_equiv.symm r.dest.base s.dest.base)
      ∙ ap (all_same (nat_eq s.area r.area) (nat_eq s.dest.base r.dest.base)) (nat_eq_equiv.symm r.dest.len s.dest.len);
  through = λ r s t e.
      let front : (nat_eq r.area s.area && nat_eq r.dest.base s.dest.base) ≡ true =
      and_left (nat_eq r.area s.area && nat_eq r.dest.base s.dest.base) (nat_eq r.dest.len s.dest.len) e in
      ap (λ (b : Bool). all_same b (nat_eq r.dest.base t.dest.base) (nat_eq r.dest.len t.dest.len))
      (number_through r.area s.area t.area (and_left (nat_eq r.area s.area) (nat_eq r.dest.base s.dest.base) front))
      ∙ ap (λ (b : Bool). all_same (nat_eq s.area t.area) b (nat_eq r.dest.len t.dest.len))
      (number_through r.dest.base s.dest.base t.dest.base (and_right (nat_eq r.area s.area) (nat_eq r.dest.base s.dest.base) front))
      ∙ ap (all_same (nat_eq s.area t.area) (nat_eq s.dest.base t.dest.base))
      (number_through r.dest.len s.dest.len t.dest.len
      (and_right (nat_eq r.area s.area && nat_eq r.dest.base s.dest.base) (nat_eq r.dest.len s.dest.len) e));
}

pub ranges_law : LastRangesLaw
ranges_law lines range = last_stays is_same_range same_range (filter_map (λ (s : OspfStatement). range_said s.says) lines) range
