-- Nodes that fill places: one node more, some more, other open places after them.
use Rattle.std.proofs.Common.{◌≡◌, ℕ, zero, suc, ◌+◌, replicate, List, [], ◌∷◌, ◌++◌, append_assoc, arith, subst, sym, refl, ap}
use Rattle.order_search.specs.Trees.{Place, Fill, places_below, branch_count}
use Rattle.order_search.specs.declared.tree.Node.{Node}
use Rattle.order_search.specs.declared.tree.Node.TheVariants.{Unvisited}

-- one more node fills the first open place
pub Fill-push : (P : Place → Node → Type 0) (places left : List Place) (place : Place) (nodes : List Node) (node : Node) →
    Fill P places nodes (place ∷ left) → P place node → Fill P places (nodes ++ node ∷ []) (places_below place node ++ left)
Fill-push P places left place [] node fill here =
    subst (λ (ps : List Place). Fill P ps (node ∷ []) (places_below place node ++ left)) (sym fill) (here, refl)
Fill-push P [] left place (n ∷ nodes) node fill here = absurd fill
Fill-push P (q ∷ places) left place (n ∷ nodes) node fill here =
    (fill.0, Fill-push P (places_below q n ++ places) left place nodes node fill.1 here)

-- some more nodes go on from the open places
pub Fill-append : (P : Place → Node → Type 0) (a b c : List Place) (nodes more : List Node) → Fill P a nodes b → Fill P b more c →
    Fill P a (nodes ++ more) c
Fill-append P a b c [] more first second = subst (λ (ps : List Place). Fill P ps more c) (sym first) second
Fill-append P [] b c (n ∷ nodes) more first second = absurd first
Fill-append P (q ∷ a) b c (n ∷ nodes) more first second = (first.0, Fill-append P (places_below q n ++ a) b c nodes more first.1 second)

-- what holds of the nodes may be weakened
pub Fill-weaker : (P Q : Place → Node → Type 0) → ((place : Place) (node : Node) → P place node → Q place node) →
    (a b : List Place) (nodes : List Node) →
    Fill P a nodes b → Fill Q a nodes b
Fill-weaker P Q weaker a b [] fill = fill
Fill-weaker P Q weaker [] b (n ∷ nodes) fill = absurd fill
Fill-weaker P Q weaker (q ∷ a) b (n ∷ nodes) fill = (weaker q n fill.0, Fill-weaker P Q weaker (places_below q n ++ a) b nodes fill.1)

-- more places may be open behind
pub Fill-frame : (P : Place → Node → Type 0) (a b more : List Place) (nodes : List Node) → Fill P a nodes b → Fill P (a ++ more) nodes (b ++ more)
Fill-frame P a b more [] fill = ap (λ (ps : List Place). ps ++ more) fill
Fill-frame P [] b more (n ∷ nodes) fill = absurd fill
Fill-frame P (q ∷ a) b more (n ∷ nodes) fill = (
  fill.0,
  subst (λ (ps : List Place). Fill P ps nodes (b ++ more)) (append_assoc (places_below q n) a more)
      (Fill-frame P (places_below q n ++ a) b more nodes fill.1),
)

pub branch_count-append : (nodes more : List Node) → branch_count (nodes ++ more) ≡ branch_count nodes + branch_count more
branch_count-append [] more = omega arith
branch_count-append (n ∷ nodes) more = omega (arith, branch_count-append nodes more)

pub branch_count-unvisited : (k : ℕ) → branch_count (replicate k Unvisited) ≡ 0
branch_count-unvisited zero = refl
branch_count-unvisited (suc k) = omega (arith, branch_count-unvisited k)
