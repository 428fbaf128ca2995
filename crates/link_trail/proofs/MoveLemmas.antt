-- What moves and their undoing do to the lists, and to what nodes and ends show.
use Rattle.std.proofs.lemmas.Grind.{common_steps}
use Rattle.std.proofs.Common.{◌≡◌, ℕ, suc, ◌≤◌, List, [], ◌∷◌, ◌++◌, length, Option, Some, None, refl, sym, ap, subst, arith}
use Rattle.link_trail.specs.declared.chain.Node.{Node}
use Rattle.link_trail.specs.declared.moves.Move.{Move}
use Rattle.link_trail.specs.Chains.{stretch_between, node_at, last_node, AreChained}
use Rattle.link_trail.specs.Moves.{moved, lists_after, lists_before, IsTakenBackBy, AllFit}

-- one move more
pub after-more : (lists : List (List ℕ)) (moves : List Move) (move : Move) →
    lists_after lists (moves ++ move ∷ []) ≡ moved (lists_after lists moves) move
after-more lists [] move = refl
after-more lists (m ∷ moves) move = after-more (moved lists m) moves move

pub before-more : (lists : List (List ℕ)) (moves : List Move) (move : Move) →
    lists_before lists (moves ++ move ∷ []) ≡ lists_before lists moves ++ lists_after lists moves ∷ []
before-more lists [] move = refl
before-more lists (m ∷ moves) move = ap (λ ls. lists ∷ ls) (before-more (moved lists m) moves move)

pub length-lists_before : (lists : List (List ℕ)) (moves : List Move) → length (lists_before lists moves) ≡ length moves
length-lists_before lists [] = refl
length-lists_before lists (m ∷ moves) = ap suc (length-lists_before (moved lists m) moves)

pub fit-more : (nodes : ℕ) (lists : List (List ℕ)) (moves : List Move) (move : Move) → AllFit nodes lists moves →
    IsTakenBackBy nodes (lists_after lists moves) move → AllFit nodes lists (moves ++ move ∷ [])
fit-more nodes lists [] move h f = (f, tt)
fit-more nodes lists (m ∷ moves) move h f = (h.0, fit-more nodes (moved lists m) moves move h.1 f)

pub fit-front : (nodes : ℕ) (lists : List (List ℕ)) (moves : List Move) (move : Move) →
    AllFit nodes lists (moves ++ move ∷ []) → AllFit nodes lists moves
fit-front nodes lists [] move h = tt
fit-front nodes lists (m ∷ moves) move h = (h.0, fit-front nodes (moved lists m) moves move h.1)

pub fit-last : (nodes : ℕ) (lists : List (List ℕ)) (moves : List Move) (move : Move) →
    AllFit nodes lists (moves ++ move ∷ []) → IsTakenBackBy nodes (lists_after lists moves) move
fit-last nodes lists [] move h = h.0
fit-last nodes lists (m ∷ moves) move h = fit-last nodes (moved lists m) moves move h.1

-- more nodes
pub fits-wider : (nodes wider : ℕ) (lists : List (List ℕ)) (move : Move) → nodes ≤ wider → IsTakenBackBy nodes lists move →
    IsTakenBackBy wider lists move
fits-wider nodes wider lists move le h = grind (arith, common_steps)

pub fit-wider : (nodes wider : ℕ) (lists : List (List ℕ)) (moves : List Move) → nodes ≤ wider → AllFit nodes lists moves →
    AllFit wider lists moves
fit-wider nodes wider lists [] le h = tt
fit-wider nodes wider lists (m ∷ moves) le h = (fits-wider nodes wider lists m le h.0, fit-wider nodes wider (moved lists m) moves le h.1)

-- what goes on after the last node of a chain
pub last-next : (nodes : List Node) (list : ℕ) (previous : Option ℕ) (xs : List ℕ) (next : Option ℕ) →
    AreChained nodes (stretch_between list previous next) xs → (z : ℕ) → last_node xs ≡ Some z → (node_at nodes z).next ≡ next
last-next nodes list previous [] next h z e = absurd (let k : Some z ≡ None = sym e in cc)
last-next nodes list previous (x ∷ []) next h z e =
    subst (λ w. (node_at nodes w).next ≡ next) (let k : x ≡ z = cc in k) (ap (λ (n : Node). n.next) h.0)
last-next nodes list previous (x ∷ y ∷ xs) next h z e = last-next nodes list (Some x) (y ∷ xs) next h.1 z e
