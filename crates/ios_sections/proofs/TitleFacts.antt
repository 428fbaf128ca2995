-- The `net` lines after the first one, one more line at a time.
use Rattle.std.proofs.Common.{arith}
use Rattle.std.proofs.lemmas.Grind.{common_steps}
use Rattle.std.proofs.Common.{◌≡◌, ℕ, ◌+◌, ◌<◌, Bool, true, false, ◌&&◌, ◌||◌, List, [], ◌∷◌, ◌++◌, length, take, drop, get_or, map, refl, cond}
use Rattle.std.specs.Prelude.{filter}
use Rattle.std.specs.List.{list_any}
use Rattle.std.proofs.lemmas.List.{map-append, take_more}
use Rattle.std.proofs.lemmas.List.Elements.{filter-append}
use Rattle.ios_lines.specs.FaultOrder.{fault_at, faults_if}
use Rattle.ios_sections.specs.ProcessFaults.{is_net, second_titles}
use Rattle.ios_lines.specs.declared.fault.Fault.{Fault}
use Rattle.ios_lines.specs.declared.kind.ReadKind.TheVariants.{Unsupported}
use Rattle.ios_lines.specs.declared.isis_line.IsisStatement.{IsisStatement}

abbrev there : List IsisStatement → Bool
there [] = false
there (_ ∷ _) = true

abbrev titled_at : IsisStatement → Fault
titled_at s = fault_at s.line Unsupported

there_cases : (t b : Bool) (x : IsisStatement) (ys : List IsisStatement) → b ≡ there ys → (t || b) ≡ there (cond t (x ∷ ys) ys)
there_cases t b x ys e = grind (arith, common_steps)

any_there : (xs : List IsisStatement) → list_any is_net xs ≡ there (filter is_net xs)
any_there [] = refl
any_there (x ∷ xs) = there_cases (is_net x) (list_any is_net xs) x (filter is_net xs) (any_there xs)

after_first : (ys : List IsisStatement) (b : Bool) (x : IsisStatement) →
    map titled_at (drop 1 (ys ++ cond b (x ∷ []) [])) ≡ map titled_at (drop 1 ys) ++ cond (there ys && b) (titled_at x ∷ []) []
after_first ys b x = grind (arith, common_steps, map-append)

second_titles-push : (xs : List IsisStatement) (x : IsisStatement) →
    second_titles (xs ++ x ∷ []) ≡ second_titles xs ++ faults_if (list_any is_net xs && is_net x) x.line Unsupported
second_titles-push xs x = grind (arith, common_steps, after_first, any_there, filter-append)

-- one more line of a loop over some lines
pub second_titles_more : (xs : List IsisStatement) (i : ℕ) (x : IsisStatement) → i < length xs → x ≡ get_or xs i x →
    second_titles (take (i + 1) xs) ≡ second_titles (take i xs) ++ faults_if (list_any is_net (take i xs) && is_net x) x.line Unsupported
second_titles_more xs i x within read = grind (arith, common_steps, second_titles-push, take_more)

any-push : (xs : List IsisStatement) (x : IsisStatement) → list_any is_net (xs ++ x ∷ []) ≡ (list_any is_net xs || is_net x)
any-push [] x = or_false (is_net x)
  where
    or_false : (b : Bool) → (b || false) ≡ b
    or_false true = refl
    or_false false = refl
any-push (y ∷ ys) x = or_assoc (is_net y) (list_any is_net ys) (is_net x) (any-push ys x)
  where
    or_assoc : (a b c : Bool) {d : Bool} → d ≡ (b || c) → (a || d) ≡ ((a || b) || c)
    or_assoc true b c e = refl
    or_assoc false b c e = e

-- whether a `net` line stands among some lines, in a loop over them
pub any_more : (xs : List IsisStatement) (i : ℕ) (x : IsisStatement) → i < length xs → x ≡ get_or xs i x →
    list_any is_net (take (i + 1) xs) ≡ (list_any is_net (take i xs) || is_net x)
any_more xs i x within read = grind (arith, common_steps, any-push, take_more)

-- a loop over some lines takes in the faults of the `net` lines after the first one, with one more line
pub titles_taken : (xs : List IsisStatement) (i : ℕ) (x : IsisStatement) (start before after : List Fault) (second titled : Bool) → i < length xs →
    x ≡ get_or xs i x → before ≡ start ++ second_titles (take i xs) → titled ≡ list_any is_net (take i xs) → second ≡ (titled && is_net x) →
    after ≡ before ++ faults_if second x.line Unsupported → after ≡ start ++ second_titles (take (i + 1) xs)
titles_taken xs i x start before after second titled within read was net is made =
    grind (arith, common_steps, second_titles_more)
