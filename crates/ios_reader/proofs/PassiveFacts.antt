-- Tables of passive interfaces, against the last line that names an interface.
use Rattle.std.proofs.Common.{arith}
use Rattle.std.proofs.lemmas.Grind.{common_steps}
use Rattle.std.proofs.Common.{sym, ◌≡◌, ℕ, ◌+◌, ◌<◌, Bool, true, List, [], ◌∷◌, length, take, get_or, Option, Some, None, refl, ap, ◌∙◌, cond, map}
use Rattle.std.proofs.Common.{bytes_eq}
use Rattle.std.specs.Cmp.Lexicographic.{nat_list_eq_equiv}
use Rattle.std.proofs.lemmas.Slice.Eq.{bytes_eq-Decides}
use Rattle.std.specs.Map.{lookup}
use Rattle.indexmap.specs.IndexMap.{insert_entry}
use Rattle.ios_lines.specs.Words.{Word}
use Rattle.ios_lines.specs.Lookups.{later, last_of}
use Rattle.ios_reader.specs.steps.Passives.{said_of, with_said}
use Rattle.ios_lines.proofs.LineLookups.{last_of_more}

same_word : (n m : Word) → bytes_eq n m ≡ true → n ≡ m
same_word n m e = (bytes_eq-Decides n m).0 e

eq_swap : (n m : Word) → bytes_eq n m ≡ bytes_eq m n
eq_swap = nat_list_eq_equiv.symm

here_cases : (b : Bool) (old v : Bool) (rest : Option Bool) → cond b (Some v) rest ≡ later (cond b (Some old) rest) (cond b (Some v) None)
here_cases b old v rest = grind (arith, common_steps)

there_cases : (b : Bool) (old : Bool) (rest more new : Option Bool) → (b ≡ true → new ≡ None) → more ≡ later rest new → cond b (Some old) more
    ≡ later (cond b (Some old) rest) new
there_cases b old rest more new none later_is = grind (arith, common_steps)

said_cases : (t : Bool) (e : Word × Bool) (es : List (Word × Bool)) (n : Word) (v : Bool) (name : Word) → bytes_eq n e.0 ≡ t →
    said_of (with_said es n v) name ≡ later (said_of es name) (cond (bytes_eq n name) (Some v) None) →
    said_of (cond t ((e.0, v) ∷ es) (e ∷ with_said es n v)) name ≡ later (said_of (e ∷ es) name) (cond (bytes_eq n name) (Some v) None)
said_cases t e es n v name same rest = grind (arith, common_steps, eq_swap, here_cases, same_word, there_cases)

-- what a table says of a name after one more line
pub said_with : (es : List (Word × Bool)) (n : Word) (v : Bool) (name : Word) → said_of (with_said es n v) name
    ≡ later (said_of es name) (cond (bytes_eq n name) (Some v) None)
said_with [] n v name = ap (λ (b : Bool). cond b (Some v) None) (eq_swap name n) ∙ sym (none_first (cond (bytes_eq n name) (Some v) None))
  where
    none_first : (o : Option Bool) → later None o ≡ o
    none_first None = refl
    none_first (Some b) = refl
said_with (e ∷ es) n v name = said_cases (bytes_eq n e.0) e es n v name refl (said_with es n v name)

-- ---- the map behind a table ----

module _ {K : Type 0} (items : K → Word) where
  abbrev shown : List (K × Bool) → List (Word × Bool)
  shown es = map (λ (e : K × Bool). (items e.0, e.1)) es

  insert_cases : (t : Bool) (e : K × Bool) (es rest : List (K × Bool)) (v : Bool) (more : List (Word × Bool)) → shown rest ≡ more →
      shown (cond t ((e.0, v) ∷ es) (e ∷ rest)) ≡ cond t ((items e.0, v) ∷ shown es) ((items e.0, e.1) ∷ more)
  insert_cases t e es rest v more h = grind (arith, common_steps)

  pub table_insert : (es : List (K × Bool)) (k : K) (v : Bool) → shown (insert_entry (λ (a b : K). bytes_eq (items a) (items b)) es k v)
      ≡ with_said (shown es) (items k) v
  table_insert [] k v = refl
  table_insert (e ∷ es) k v =
      insert_cases (bytes_eq (items k) (items e.0)) e es (insert_entry (λ (a b : K). bytes_eq (items a) (items b)) es k v) v
      (with_said (shown es) (items k) v) (table_insert es k v)

  lookup_cases : (t : Bool) (v : Bool) (a b : Option Bool) → a ≡ b → cond t (Some v) a ≡ cond t (Some v) b
  lookup_cases t v a b h = grind (arith, common_steps)

  pub table_lookup : (es : List (K × Bool)) (name : Word) → lookup (λ (k : K). bytes_eq name (items k)) es ≡ said_of (shown es) name
  table_lookup [] name = refl
  table_lookup (e ∷ es) name = lookup_cases (bytes_eq name (items e.0)) e.1 _ _ (table_lookup es name)

-- ---- a loop over the lines of a process ----

-- one more line
pub table_more : {A : Type 0} (form : Word → A → Option Bool) (xs : List A) (i : ℕ) (x : A) (old new : List (Word × Bool)) → i < length xs → x
    ≡ get_or xs i x →
    ((name : Word) → said_of old name ≡ last_of (form name) (take i xs)) → ((name : Word) → said_of new name ≡ later (said_of old name) (form name x)) →
    (name : Word) → said_of new name ≡ last_of (form name) (take (i + 1) xs)
table_more form xs i x old new within read before step name = grind (arith, common_steps, last_of_more)
