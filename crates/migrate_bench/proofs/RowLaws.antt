-- Rows of neighbors, one more at a time.
use Rattle.std.proofs.Common.{◌≡◌, ℕ, ◌+◌, ◌<◌, List, [], ◌∷◌, ◌++◌, length, get_or, sym, subst, arith}
use Rattle.std.proofs.lemmas.List.{get_or_append_left, get_or_push}
use Rattle.std.proofs.lemmas.List.Elements.{All-push, All-get_or, All-from_get_or}
use Rattle.migrate_bench.specs.Rows.{ListsRouters}
use borrow.Author.Count.{below_more}

-- a row within the routers stays within them with one more
pub within_grows : (row : List ℕ) (i count : ℕ) → i < count →
    ((k : ℕ) → k < length row → get_or row k 0 < count) →
    (k : ℕ) → k < length (row ++ i ∷ []) → get_or (row ++ i ∷ []) k 0 < count
within_grows row i count below within k short =
    let Below : ℕ → Type 0 = λ n. n < count in
    All-get_or Below (row ++ i ∷ []) k 0 short
    (All-push Below row i (All-from_get_or Below row 0 within) below)

-- what holds of each row so far, and of one more
pub rows_more : (count : ℕ) (rows : List (List ℕ)) (row : List ℕ) (v : ℕ) →
    length rows ≡ v → ((w : ℕ) → w < v → ListsRouters count (get_or rows w [])) → ListsRouters count row →
    (w : ℕ) → w < v + 1 → ListsRouters count (get_or (rows ++ row ∷ []) w [])
rows_more count rows row v long before last =
    below_more (λ w. ListsRouters count (get_or (rows ++ row ∷ []) w [])) v
    (λ w below.
    let near : w < length rows = omega arith in
    let kept : get_or (rows ++ row ∷ []) w [] ≡ get_or rows w [] =
    get_or_append_left rows (row ∷ []) [] w near
    in
    subst (ListsRouters count) (sym kept) (before w below))
    (let new : get_or (rows ++ row ∷ []) v [] ≡ row = get_or_push rows row [] v long in subst (ListsRouters count) (sym new) last)
