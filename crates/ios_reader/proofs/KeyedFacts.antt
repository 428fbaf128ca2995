-- Tables whose values stand under their keys.
use Rattle.std.proofs.lemmas.Grind.{common_steps}
use Rattle.std.proofs.Common.{sym, ◌≡◌, ℕ, ◌+◌, ◌<◌, Bool, true, false, ◌&&◌, List, [], ◌∷◌, length, take, get_or, Option, Some, None, refl}
use Rattle.std.proofs.Common.{ap, ◌∙◌, cond, nat_eq, arith}
use Rattle.std.specs.Cmp.{nat_eq_equiv}
use Rattle.std.proofs.lemmas.Bool.{false≢true, eqb-true}
use Rattle.std.proofs.lemmas.List.Elements.{All-cons, All-head, All-tail}
use Rattle.std.specs.Map.{lookup}
use Rattle.indexmap.specs.IndexMap.{insert_entry}
use Rattle.ios_lines.specs.Lookups.{later, replaced, last_of}
use Rattle.net_model.specs.declared.area.Range.{Range}
use Rattle.ios_reader.specs.Routers.{cost_if, is_same_range}
use Rattle.ios_reader.specs.steps.Tables.{values_in, AreKeyed, range_key}
use Rattle.ios_lines.proofs.NumberFacts.{and_left, and_right}
use Rattle.ios_lines.proofs.LineLookups.{last_of_more}

value_cases : {K : Type 0} {V : Type 0} (t u : Bool) (e : K × V) (v : V) (es rest : List (K × V)) (more : List V) → t ≡ u → values_in rest ≡ more →
    values_in (cond t ((e.0, v) ∷ es) (e ∷ rest)) ≡ cond u (v ∷ values_in es) (e.1 ∷ more)
value_cases true true e v es rest more same later = refl
value_cases {K} {V} false false e v es rest more same later = ap (λ (w : List V). e.1 ∷ w) later
value_cases true false e v es rest more same later = absurd (false≢true (sym same))
value_cases false true e v es rest more same later = absurd (false≢true same)

keyed_cases : {K : Type 0} {V : Type 0} (key : V → K) (t : Bool) (e : K × V) (v : V) (es rest : List (K × V)) → (t ≡ true → e.0 ≡ key v) →
    AreKeyed key (e ∷ es) → AreKeyed key rest → AreKeyed key (cond t ((e.0, v) ∷ es) (e ∷ rest))
keyed_cases {K} {V} key true e v es rest same h later = All-cons (λ (p : K × V). p.0 ≡ key p.1) (e.0, v) es (same refl)
    (All-tail (λ (p : K × V). p.0 ≡ key p.1) e es h)
keyed_cases {K} {V} key false e v es rest same h later = All-cons (λ (p : K × V). p.0 ≡ key p.1) e rest (All-head (λ (p : K × V). p.0 ≡ key p.1) e es h) later

-- a value takes the place of the one with its key, or goes last
pub insert_values : {K : Type 0} {V : Type 0} (eq : K → K → Bool) (key : V → K) (same : V → V → Bool) → ((x y : V) → eq (key x) (key y) ≡ same y x) →
    (es : List (K × V)) (v : V) → AreKeyed key es → values_in (insert_entry eq es (key v) v) ≡ replaced same (values_in es) v
insert_values eq key same agree [] v h = refl
insert_values {K} {V} eq key same agree (e ∷ es) v h =
    value_cases (eq (key v) e.0) (same e.1 v) e v es (insert_entry eq es (key v) v) (replaced same (values_in es) v)
    (ap (eq (key v)) (All-head (λ (p : K × V). p.0 ≡ key p.1) e es h) ∙ agree v e.1)
    (insert_values eq key same agree es v (All-tail (λ (p : K × V). p.0 ≡ key p.1) e es h))

-- and the values stay under their keys
pub insert_keyed : {K : Type 0} {V : Type 0} (eq : K → K → Bool) (key : V → K) → ((a b : K) → eq a b ≡ true → a ≡ b) →
    (es : List (K × V)) (v : V) → AreKeyed key es → AreKeyed key (insert_entry eq es (key v) v)
insert_keyed {K} {V} eq key alike [] v h = All-cons (λ (p : K × V). p.0 ≡ key p.1) (key v, v) [] refl h
insert_keyed {K} {V} eq key alike (e ∷ es) v h =
    keyed_cases key (eq (key v) e.0) e v es (insert_entry eq es (key v) v) (λ t. sym (alike (key v) e.0 t)) h
    (insert_keyed eq key alike es v (All-tail (λ (p : K × V). p.0 ≡ key p.1) e es h))

-- ---- numbers as keys ----

said_cases : (t : Bool) (e : ℕ × ℕ) (es : List (ℕ × ℕ)) (n v q : ℕ) → nat_eq n e.0 ≡ t →
    lookup (nat_eq q) (insert_entry nat_eq es n v) ≡ later (lookup (nat_eq q) es) (cost_if (nat_eq n q) v) →
    lookup (nat_eq q) (cond t ((e.0, v) ∷ es) (e ∷ insert_entry nat_eq es n v)) ≡ later (lookup (nat_eq q) (e ∷ es)) (cost_if (nat_eq n q) v)
said_cases t e es n v q same rest = grind arith

-- what a table says of a number after one more line
pub lookup_insert : (es : List (ℕ × ℕ)) (n v q : ℕ) → lookup (nat_eq q) (insert_entry nat_eq es n v) ≡ later (lookup (nat_eq q) es) (cost_if (nat_eq n q) v)
lookup_insert [] n v q = first (nat_eq q n) (nat_eq n q) (nat_eq_equiv.symm q n)
  where
    first : (s t : Bool) → s ≡ t → cond s (Some v) None ≡ later None (cost_if t v)
    first s t e = grind arith
lookup_insert (e ∷ es) n v q = said_cases (nat_eq n e.0) e es n v q refl (lookup_insert es n v q)

-- one more line of a loop
pub lookup_more : {A : Type 0} (form : ℕ → A → Option ℕ) (xs : List A) (i : ℕ) (x : A) (old new : List (ℕ × ℕ)) → i < length xs → x ≡ get_or xs i x →
    ((q : ℕ) → lookup (nat_eq q) old ≡ last_of (form q) (take i xs)) → ((q : ℕ) → lookup (nat_eq q) new ≡ later (lookup (nat_eq q) old) (form q x)) →
    (q : ℕ) → lookup (nat_eq q) new ≡ last_of (form q) (take (i + 1) xs)
lookup_more form xs i x old new within read before step q = grind (arith, common_steps, last_of_more)

-- ---- ranges ----

-- two keys of ranges are equal
abbrev pub key_eq : ℕ × ℕ × ℕ → ℕ × ℕ × ℕ → Bool
key_eq a b = (nat_eq a.0 b.0 && nat_eq a.1 b.1) && nat_eq a.2 b.2

same_parts : (a1 b1 a2 b2 a3 b3 : ℕ) → a1 ≡ b1 → a2 ≡ b2 → a3 ≡ b3 → (let k : ℕ × ℕ × ℕ = (a1, a2, a3) in k) ≡ (b1, b2, b3)
same_parts a1 b1 a2 b2 a3 b3 p q r = cc

pub key_same : (a b : ℕ × ℕ × ℕ) → key_eq a b ≡ true → a ≡ b
key_same a b e = grind (arith, common_steps, and_left, and_right, eqb-true, same_parts)

pub keys_agree : (x y : Range) → key_eq (range_key x) (range_key y) ≡ is_same_range y x
keys_agree x y = grind (arith, common_steps)
