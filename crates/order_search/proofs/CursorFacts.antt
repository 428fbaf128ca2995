-- Cursors over the children of a branch: where they stand, the next child, and the children of all branches.
use Rattle.std.proofs.lemmas.Grind.{common_steps}
use Rattle.std.proofs.Common.{◌≡◌, ℕ, zero, suc, ◌+◌, ◌*◌, ◌<◌, ◌≤◌, List, [], ◌∷◌, length, get_or, drop, map, arith, sym, ap}
use Rattle.std.proofs.Common.{◌∙◌}
use Rattle.std.proofs.Math.Nat.{mul-le-mul}
use Rattle.std.proofs.lemmas.List.{length-append, length-map, get_or-map, get_or_append_left, get_or-append-add, get_or_default, drop_more, drop_all}
use Rattle.order_core.specs.Pairs.{Pair}
use Rattle.order_search.specs.steps.Cursors.{grid}
use Rattle.order_search.specs.steps.Waiting.{child_of}

-- a row of pairs
abbrev row : List ℕ → ℕ → List Pair
row news u = map (λ (v : ℕ). (u, v)) news

length-row : (news : List ℕ) (u : ℕ) → length (row news u) ≡ length news
length-row news u = length-map news (λ (v : ℕ). (u, v))

-- a grid has as many pairs as its rows and columns say
pub length-grid : (olds news : List ℕ) → length (grid olds news) ≡ length olds * length news
length-grid [] news = omega arith
length-grid (u ∷ olds) news =
    let n : ℕ = length news in
    let more : suc (length olds) * n ≡ n + length olds * n = omega arith in
    length-append (row news u) (grid olds news) ∙ ap (λ (k : ℕ). k + length (grid olds news)) (length-row news u)
    ∙ ap (λ (k : ℕ). n + k) (length-grid olds news) ∙ sym more

-- the pair in a row and a column of a grid
pub grid_at : (olds news : List ℕ) (i j : ℕ) → i < length olds → j < length news →
    get_or (grid olds news) (i * length news + j) (0, 0) ≡ (get_or olds i 0, get_or news j 0)
grid_at [] news i j i_in j_in = absurd (omega (arith, i_in))
grid_at (u ∷ olds) news zero j i_in j_in =
    let here : 0 * length news + j ≡ j = omega arith in
    let within : j < length (row news u) = omega (arith, j_in, length-row news u) in
    ap (λ (k : ℕ). get_or (grid (u ∷ olds) news) k (0, 0)) here
    ∙ get_or_append_left (row news u) (grid olds news) (0, 0) j within
    ∙ get_or-map (λ (v : ℕ). (u, v)) news j 0 (0, 0) j_in
grid_at (u ∷ olds) news (suc i) j i_in j_in =
    let n : ℕ = length news in
    let at : suc i * n + j ≡ length (row news u) + (i * n + j) = omega (arith, length-row news u) in
    ap (λ (k : ℕ). get_or (grid (u ∷ olds) news) k (0, 0)) at
    ∙ get_or-append-add (row news u) (grid olds news) (i * n + j) (0, 0)
    ∙ grid_at olds news i j (omega (arith, i_in)) j_in

-- the children from a cursor that stands in a row: the one there, and those after it
pub children_at : (olds news : List ℕ) (above i j k : ℕ) → i < length olds → j < length news → k ≡ i * length news + j + 1 →
    map (child_of above) (drop (i * length news + j) (grid olds news)) ≡ child_of above (get_or olds i 0, get_or news j 0) ∷ map (child_of above)
    (drop k (grid olds news))
children_at olds news above i j k i_in j_in next =
    let n : ℕ = length news in
    let rows : suc i * n ≤ length olds * n = mul-le-mul i_in (same n) in
    let within : i * n + j < length (grid olds news) = omega (arith, rows, j_in, length-grid olds news) in
    ap (map (child_of above)) (drop_more (grid olds news) (i * n + j) (0, 0) within)
    ∙ ap (λ (p : Pair). child_of above p ∷ map (child_of above) (drop (i * n + j + 1) (grid olds news))) (grid_at olds news i j i_in j_in)
    ∙ ap (λ (x : ℕ). child_of above (get_or olds i 0, get_or news j 0) ∷ map (child_of above) (drop x (grid olds news))) (sym next)
  where
    same : (n : ℕ) → n ≤ n
    same n = omega arith

-- the same, where the child's numbers are read at their places
pub children_next : (olds news : List ℕ) (above i j k before after : ℕ) → i < length olds → j < length news → before ≡ get_or olds i before →
    after ≡ get_or news j after → k ≡ i * length news + j + 1 →
    map (child_of above) (drop (i * length news + j) (grid olds news)) ≡ child_of above (before, after) ∷ map (child_of above) (drop k (grid olds news))
children_next olds news above i j k before after i_in j_in old new next =
    grind (arith, common_steps, children_at, get_or_default)

-- the row after one that ends
pub row_ends : (i n j : ℕ) → j + 1 ≡ n → (i + 1) * n + 0 ≡ i * n + j + 1
row_ends i n j end = omega (arith, end)

-- behind the last row there is no child
pub children_end : (olds news : List ℕ) (above i j : ℕ) → i ≡ length olds → map (child_of above) (drop (i * length news + j) (grid olds news)) ≡ []
children_end olds news above i j end = grind (arith, common_steps, drop_all, length-grid)
