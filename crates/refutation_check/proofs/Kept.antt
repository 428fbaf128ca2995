-- What a filter keeps, and words joined with a blank before each.
use Rattle.std.proofs.lemmas.Grind.{common_steps}
use Rattle.std.proofs.Common.{◌≡◌, ℕ, zero, suc, ◌+◌, ◌<◌, ◌≤◌, Bool, true, false, cond, List, [], ◌∷◌, ◌++◌, length, get_or, take, map}
use Rattle.std.proofs.Common.{arith, refl, sym, ◌∙◌, subst}
use Rattle.std.specs.List.{All, filter}
use Rattle.std.proofs.lemmas.List.{take_all, take_more, length-map, map-append, append-nil}
use Rattle.std.proofs.lemmas.List.Concat.{flat_map-append}
use Rattle.std.proofs.lemmas.List.Elements.{All-head, All-tail}
use Rattle.order_core.specs.Turns.{routers_of}
use Rattle.order_core.specs.declared.turn.Turn.{Turn}
use Rattle.printed_lines.specs.Texts.{text_of}
use Rattle.printed_lines.specs.Words.{spaced}
use Rattle.printed_lines.proofs.TextSteps.{last_line, text_of-append}

kept : {A : Type 0} (p : A → Bool) (x : A) (xs : List A) (b : Bool) → p x ≡ b → length (filter p (x ∷ xs)) ≡ cond b 1 0 + length (filter p xs)
kept p x xs b e = grind (arith, common_steps)

-- an item that passes is kept
pub some_kept : {A : Type 0} (p : A → Bool) (xs : List A) (k : ℕ) (d : A) → k < length xs → p (get_or xs k d) ≡ true → 0 < length (filter p xs)
some_kept p [] k d within e = absurd (omega (arith, within))
some_kept p (x ∷ xs) zero d within e = omega (arith, kept p x xs true e)
some_kept p (x ∷ xs) (suc k) d within e = omega (arith, some_kept p xs k d (omega (arith, within)) e, kept p x xs (p x) refl)

-- where none passes, none is kept
pub none_kept : {A : Type 0} (p : A → Bool) (xs : List A) → All (λ (x : A). p x ≡ false) xs → length (filter p xs) ≡ 0
none_kept p [] all = refl
none_kept {A} p (x ∷ xs) all =
    omega (arith, kept p x xs false (All-head (λ (y : A). p y ≡ false) x xs all), none_kept p xs (All-tail (λ (y : A). p y ≡ false) x xs all))

-- where some turn passes, a router is kept; where none before a place behind the last does, none is
module _ (p : Turn → Bool) (turns : List Turn) (i : ℕ) where
  pub some_router : (d : Turn) (b : Bool) → i < length turns → b ≡ p (get_or turns i d) → b ≡ true → 0 < length (routers_of (filter p turns))
  some_router d b within told is =
      omega (arith, length-map (filter p turns) (λ (t : Turn). t.router), some_kept p turns i d within (sym told ∙ is))

  pub no_router : length turns ≤ i → All (λ (t : Turn). p t ≡ false) (take i turns) → ¬ 0 < length (routers_of (filter p turns))
  no_router past none = λ some.
      let all = subst (λ (l : List Turn). All (λ (t : Turn). p t ≡ false) l) (take_all i turns past) none in
      omega (arith, length-map (filter p turns) (λ (t : Turn). t.router), none_kept p turns all, some)

-- one word more
pub spaced_more : {A : Type 0} (word : A → List ℕ) (xs : List A) (i : ℕ) (d : A) (start line : List ℕ) → i < length xs →
    line ≡ start ++ spaced (map word (take i xs))
    → line ++ 32 ∷ word (get_or xs i d) ≡ start ++ spaced (map word (take (i + 1) xs))
spaced_more {A} word xs i d start line within so_far =
    grind (arith, common_steps, append-nil, flat_map-append, map-append, take_more)

-- one line more
pub text_more : {A : Type 0} (line : A → List ℕ) (xs : List A) (i : ℕ) (d : A) (start text : List ℕ) → i < length xs →
    text ≡ start ++ text_of (map line (take i xs))
    → (text ++ line (get_or xs i d)) ++ 10 ∷ [] ≡ start ++ text_of (map line (take (i + 1) xs))
text_more {A} line xs i d start text within so_far =
    grind (arith, common_steps, last_line, map-append, take_more, text_of-append)
