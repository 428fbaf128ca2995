-- Numbering by first appearance, key by key.
use Rattle.std.proofs.lemmas.Grind.{common_steps}
use Rattle.std.proofs.Common.{◌≡◌, ◌≢◌, ℕ, ◌+◌, ◌<◌, ◌≤◌, List, [], ◌∷◌, ◌++◌, length, get_or, set, Option, Some, None, ⊎_elim, arith, refl, sym, ap, subst}
use Rattle.std.proofs.Common.{◌∙◌, below_more, length-append, get_or-set_other, get_or-set_same}
use Rattle.std.proofs.lemmas.Bool.{cases_eq, cases_lt}
use Rattle.std.proofs.lemmas.List.{get_or_append_left, get_or_push, length-set}
use Rattle.std.specs.List.Sorted.{IsStrictlyIncreasing}
use Rattle.prefix_atoms.specs.steps.Numbers.{TakesNumber, Tally}

-- what is known of a key: it has a number, or it isn't among the first n keys
abbrev pub IsSeen : List ℕ → ℕ → List ℕ → ℕ → Option ℕ → Type 0
IsSeen keys n firsts x None = (j : ℕ) → j < n → get_or keys j 0 ≢ x
IsSeen keys n firsts x (Some k) = (k < length firsts) × (get_or keys (get_or firsts k 0) 0 ≡ x)

-- the first n keys are numbered
pub record Numbered (keys : List ℕ) (bound n : ℕ) (numbers firsts : List ℕ) (seen : List (Option ℕ)) : Type 0 where
  pub count : length numbers ≡ n
  pub size : length seen ≡ bound
  pub few : length firsts ≤ n
  pub ascending : IsStrictlyIncreasing firsts
  pub within : (k : ℕ) → k < length firsts → get_or firsts k 0 < n
  pub first : (k j : ℕ) → k < length firsts → j < get_or firsts k 0 → get_or keys j 0 ≢ get_or keys (get_or firsts k 0) 0
  pub numbered : (j : ℕ) → j < n → get_or numbers j 0 < length firsts
  pub same : (j : ℕ) → j < n → get_or keys (get_or firsts (get_or numbers j 0) 0) 0 ≡ get_or keys j 0
  pub known : (x : ℕ) → x < bound → IsSeen keys n firsts x (get_or seen x None)

-- a list with one element more, read before it and at it
old_at : (xs : List ℕ) (y k : ℕ) → k < length xs → get_or (xs ++ y ∷ []) k 0 ≡ get_or xs k 0
old_at xs y k l = get_or_append_left xs (y ∷ []) 0 k l

new_at : (xs : List ℕ) (y k : ℕ) → length xs ≡ k → get_or (xs ++ y ∷ []) k 0 ≡ y
new_at xs y k l = get_or_push xs y 0 k l

length_more : (xs : List ℕ) (y : ℕ) → length (xs ++ y ∷ []) ≡ length xs + 1
length_more xs y = length-append xs (y ∷ [])

-- a key stays seen, or unseen where the next one is another
seen_more : (keys : List ℕ) (n : ℕ) (firsts : List ℕ) (x : ℕ) (o : Option ℕ) → IsSeen keys n firsts x o → (o ≡ None → get_or keys n 0 ≢ x)
    → IsSeen keys (n + 1) firsts x o
seen_more keys n firsts x o h apart = grind (arith, common_steps)

-- a further first place leaves what is seen
seen_push : (keys : List ℕ) (n : ℕ) (firsts : List ℕ) (place x : ℕ) (o : Option ℕ) → IsSeen keys n firsts x o → IsSeen keys n (firsts ++ place ∷ []) x o
seen_push keys n firsts place x o h = grind (arith, common_steps, length_more, old_at)

-- a key that has a number keeps it
known_more : (keys : List ℕ) (bound n : ℕ) (numbers firsts : List ℕ) (seen : List (Option ℕ)) (k : ℕ) → Numbered keys bound n numbers firsts seen
    → get_or seen (get_or keys n 0) None ≡ Some k → get_or keys n 0 < bound → Numbered keys bound (n + 1) (numbers ++ k ∷ []) firsts seen
known_more keys bound n numbers firsts seen k h at below = grind (arith, common_steps, length_more, new_at, old_at, seen_more)

fresh_ascends : (firsts : List ℕ) (n : ℕ) → IsStrictlyIncreasing firsts → ((k : ℕ) → k < length firsts → get_or firsts k 0 < n) →
    IsStrictlyIncreasing (firsts ++ n ∷ [])
fresh_ascends firsts n up within k l = grind (arith, common_steps, cases_lt, length_more, new_at, old_at)

fresh_first : (keys : List ℕ) (n : ℕ) (firsts : List ℕ)
    → ((k j : ℕ) → k < length firsts → j < get_or firsts k 0 → get_or keys j 0 ≢ get_or keys (get_or firsts k 0) 0)
    → ((j : ℕ) → j < n → get_or keys j 0 ≢ get_or keys n 0)
    → (k : ℕ) → k < length firsts + 1 → (j : ℕ) → j < get_or (firsts ++ n ∷ []) k 0 → get_or keys j 0 ≢ get_or keys (get_or (firsts ++ n ∷ []) k 0) 0
fresh_first keys n firsts first new = grind (arith, common_steps, new_at, old_at)

-- a key without a number takes the next one
fresh_more : (keys : List ℕ) (bound n : ℕ) (numbers firsts : List ℕ) (seen : List (Option ℕ)) → Numbered keys bound n numbers firsts seen
    → get_or seen (get_or keys n 0) None ≡ None → get_or keys n 0 < bound
    → Numbered keys bound (n + 1) (numbers ++ length firsts ∷ []) (firsts ++ n ∷ []) (set seen (get_or keys n 0) (Some (length firsts)))
fresh_more keys bound n numbers firsts seen h at below =
    let new : (j : ℕ) → j < n → get_or keys j 0 ≢ get_or keys n 0 =
    subst (IsSeen keys n firsts (get_or keys n 0)) at (h.known (get_or keys n 0) below) in
    let long : length (firsts ++ n ∷ []) ≡ length firsts + 1 = length_more firsts n in
    record {
      count = length_more numbers (length firsts) ∙ ap (λ (m : ℕ). m + 1) h.count;
      size = length-set seen (get_or keys n 0) (Some (length firsts)) ∙ h.size;
      few = omega (arith, h.few);
      ascending = fresh_ascends firsts n h.ascending h.within;
      within = λ k l. below_more (λ (k : ℕ). get_or (firsts ++ n ∷ []) k 0 < n + 1) (length firsts)
          (λ k l. let e : get_or (firsts ++ n ∷ []) k 0 ≡ get_or firsts k 0 = old_at firsts n k l in
          let m : get_or firsts k 0 < n = h.within k l in omega arith)
          (let e : get_or (firsts ++ n ∷ []) (length firsts) 0 ≡ n = new_at firsts n (length firsts) refl in omega arith) k (omega arith);
      first = λ k j l before. fresh_first keys n firsts h.first new k (omega arith) j before;
      numbered = below_more (λ (j : ℕ). get_or (numbers ++ length firsts ∷ []) j 0 < length (firsts ++ n ∷ [])) n
          (λ j l. let e : get_or (numbers ++ length firsts ∷ []) j 0 ≡ get_or numbers j 0 = old_at numbers (length firsts) j (omega (arith, h.count)) in
          let m : get_or numbers j 0 < length firsts = h.numbered j l in omega arith)
          (let e : get_or (numbers ++ length firsts ∷ []) n 0 ≡ length firsts = new_at numbers (length firsts) n h.count in omega arith);
      same = below_more (λ (j : ℕ). get_or keys (get_or (firsts ++ n ∷ []) (get_or (numbers ++ length firsts ∷ []) j 0) 0) 0 ≡ get_or keys j 0) n
          (λ j l.
          let e : get_or (numbers ++ length firsts ∷ []) j 0 ≡ get_or numbers j 0 = old_at numbers (length firsts) j (omega (arith, h.count)) in
          ap (λ (m : ℕ). get_or keys (get_or (firsts ++ n ∷ []) m 0) 0) e
          ∙ ap (λ (m : ℕ). get_or keys m 0) (old_at firsts n (get_or numbers j 0) (h.numbered j l)) ∙ h.same j l)
          (ap (λ (m : ℕ). get_or keys (get_or (firsts ++ n ∷ []) m 0) 0) (new_at numbers (length firsts) n h.count)
          ∙ ap (λ (m : ℕ). get_or keys m 0) (new_at firsts n (length firsts) refl));
      known = λ x l. fresh_known keys bound n firsts seen x h.size below (h.known x l);
    }
  where
    fresh_known : (keys : List ℕ) (bound n : ℕ) (firsts : List ℕ) (seen : List (Option ℕ)) (x : ℕ) → length seen ≡ bound → get_or keys n 0 < bound
        → IsSeen keys n firsts x (get_or seen x None)
        → IsSeen keys (n + 1) (firsts ++ n ∷ []) x (get_or (set seen (get_or keys n 0) (Some (length firsts))) x None)
    fresh_known keys bound n firsts seen x size below h = ⊎_elim
        (λ (same : get_or keys n 0 ≡ x).
        let within : get_or keys n 0 < length seen = omega arith in
        let e : get_or (set seen (get_or keys n 0) (Some (length firsts))) x None ≡ Some (length firsts) =
        subst (λ (y : ℕ). get_or (set seen (get_or keys n 0) (Some (length firsts))) y None ≡ Some (length firsts)) same
        (get_or-set_same seen (get_or keys n 0) (Some (length firsts)) None within) in
        subst (IsSeen keys (n + 1) (firsts ++ n ∷ []) x) (sym e)
        (omega (arith, length_more firsts n), ap (λ (m : ℕ). get_or keys m 0) (new_at firsts n (length firsts) refl) ∙ same))
        (λ (apart : get_or keys n 0 ≢ x).
        let e : get_or (set seen (get_or keys n 0) (Some (length firsts))) x None ≡ get_or seen x None =
        get_or-set_other seen (get_or keys n 0) x (Some (length firsts)) None (λ same. apart (sym same)) in
        subst (IsSeen keys (n + 1) (firsts ++ n ∷ []) x) (sym e)
        (seen_more keys n (firsts ++ n ∷ []) x (get_or seen x None) (seen_push keys n firsts n x (get_or seen x None) h) (λ _. apart)))
        (cases_eq (get_or keys n 0) x)

-- numbering goes on by one key
pub numbered_more : (keys : List ℕ) (bound n : ℕ) (numbers : List ℕ) (old new : Tally) (o : Option ℕ) (number : ℕ)
    → Numbered keys bound n numbers old.firsts old.seen → get_or keys n 0 < bound → get_or old.seen (get_or keys n 0) None ≡ o
    → TakesNumber o (get_or keys n 0) n number old new → Numbered keys bound (n + 1) (numbers ++ number ∷ []) new.firsts new.seen
numbered_more keys bound n numbers old new (Some k) number h below at takes =
    subst (λ (m : ℕ). Numbered keys bound (n + 1) (numbers ++ m ∷ []) new.firsts new.seen) (sym takes.0)
    (subst (λ (s : List (Option ℕ)). Numbered keys bound (n + 1) (numbers ++ k ∷ []) new.firsts s) (sym takes.1)
    (subst (λ (f : List ℕ). Numbered keys bound (n + 1) (numbers ++ k ∷ []) f old.seen) (sym takes.2)
    (known_more keys bound n numbers old.firsts old.seen k h at below)))
numbered_more keys bound n numbers old new None number h below at takes =
    let many : ℕ = length old.firsts in
    subst (λ (m : ℕ). Numbered keys bound (n + 1) (numbers ++ m ∷ []) new.firsts new.seen) (sym takes.0)
    (subst (λ (s : List (Option ℕ)). Numbered keys bound (n + 1) (numbers ++ many ∷ []) new.firsts s) (sym takes.1)
    (subst (λ (f : List ℕ). Numbered keys bound (n + 1) (numbers ++ many ∷ []) f (set old.seen (get_or keys n 0) (Some many))) (sym takes.2)
    (fresh_more keys bound n numbers old.firsts old.seen h at below)))
