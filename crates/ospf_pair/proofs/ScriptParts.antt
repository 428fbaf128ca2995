-- The parts of a script, one after the other.
use Rattle.std.proofs.Common.{◌≡◌, ℕ, suc, ◌+◌, ◌*◌, ◌<◌, ◌≤◌, List, [], ◌∷◌, ◌++◌, length, get_or, take, refl, sym, ap, ◌∙◌, append_assoc}
use Rattle.std.proofs.Common.{append-nil, arith}
use Rattle.std.specs.List.{enumerate_from, flat_map}
use Rattle.std.proofs.lemmas.List.{take_more, length-take-le}
use Rattle.std.proofs.lemmas.List.Concat.{flat_map-append}
use Rattle.igp_theory.specs.Changes.{Change, first, second}
use Rattle.igp_theory.specs.Waves.{run_along}
use Rattle.igp_theory.proofs.FlatOrders.{run_length}
use Rattle.printed_lines.specs.Texts.{text_of}
use Rattle.printed_lines.proofs.TextSteps.{text_of-append}
use Rattle.ospf_pair.specs.PairScripts.{PairScripted, pair_part, pair_parts}

pub enumerate_append : {X : Type 0} (n : ℕ) (xs ys : List X) →
    enumerate_from n (xs ++ ys) ≡ enumerate_from n xs ++ enumerate_from (n + length xs) ys
enumerate_append n [] ys = ap (λ k. enumerate_from k ys) (let e : n ≡ n + 0 = omega arith in e)
enumerate_append n (x ∷ xs) ys =
    ap (λ l. (n, x) ∷ l) (enumerate_append (n + 1) xs ys
    ∙ ap (λ k. enumerate_from (n + 1) xs ++ enumerate_from k ys) (let e : n + 1 + length xs ≡ n + suc (length xs) = omega arith in e))

-- the text of the parts for the routers before a place, and for the one there
pub text_more : (m : PairScripted) (order : List ℕ) (place u d : ℕ) → place < length order → u ≡ get_or order place d →
    text_of (pair_parts m (run_along (take (place + 1) order)))
    ≡ (text_of (pair_parts m (run_along (take place order))) ++ text_of (pair_part m (2 * place + 1) (first u)))
    ++ text_of (pair_part m (2 * place + 2) (second u))
text_more m order place u d within is =
    let before : List Change = run_along (take place order) in
    let part : (ℕ × Change) → List (List ℕ) = λ c. pair_part m c.0 c.1 in
    let one : List (List ℕ) = pair_part m (2 * place + 1) (first u) in
    let two : List (List ℕ) = pair_part m (2 * place + 2) (second u) in
    let long : 1 + length before ≡ 2 * place + 1 =
    ap (λ k. 1 + k) (run_length (take place order)
    ∙ ap (λ k. 2 * k) (length-take-le place order (let e : place ≤ length order = omega (arith, within) in e)))
    ∙ (let e : 1 + 2 * place ≡ 2 * place + 1 = omega arith in e) in
    let taken : take (place + 1) order ≡ take place order ++ u ∷ [] =
    take_more order place d within ∙ ap (λ v. take place order ++ v ∷ []) (sym is) in
    let run : run_along (take (place + 1) order) ≡ before ++ first u ∷ second u ∷ [] =
    ap run_along taken ∙ flat_map-append (λ (v : ℕ). first v ∷ second v ∷ []) (take place order) (u ∷ []) in
    let parts : flat_map part (enumerate_from (2 * place + 1) (first u ∷ second u ∷ [])) ≡ one ++ two =
    ap (λ l. one ++ l) (append-nil (pair_part m (2 * place + 1 + 1) (second u)) ∙ ap (λ k. pair_part m k (second u))
    (let e : 2 * place + 1 + 1 ≡ 2 * place + 2 = omega arith in e)) in
    ap (λ r. text_of (pair_parts m r)) run
    ∙ ap (λ l. text_of (flat_map part l)) (enumerate_append 1 before (first u ∷ second u ∷ []))
    ∙ ap text_of (flat_map-append part (enumerate_from 1 before) (enumerate_from (1 + length before) (first u ∷ second u ∷ [])))
    ∙ ap (λ k. text_of (pair_parts m before ++ flat_map part (enumerate_from k (first u ∷ second u ∷ [])))) long
    ∙ ap (λ l. text_of (pair_parts m before ++ l)) parts
    ∙ text_of-append (pair_parts m before) (one ++ two)
    ∙ ap (λ l. text_of (pair_parts m before) ++ l) (text_of-append one two)
    ∙ sym (append_assoc (text_of (pair_parts m before)) (text_of one) (text_of two))
