-- What nodes and ends show where a node is put between two neighbors, or taken out.
use Rattle.std.proofs.lemmas.Grind.{common_steps}
use Rattle.std.proofs.Common.{◌≡◌, ◌≢◌, ℕ, ◌<◌, List, [], ◌∷◌, ◌++◌, length, Option, Some, None, set, sym, ap, ◌∙◌, subst}
use Rattle.std.proofs.Common.{⊎_elim, arith}
use Rattle.std.proofs.lemmas.List.{get_or-set_same, get_or-set_other, length-set}
use Rattle.std.proofs.lemmas.Bool.{cases_eq}
use Rattle.link_trail.proofs.ListLemmas.{free-before, free-none}
use Rattle.link_trail.specs.declared.chain.Node.{Node}
use Rattle.link_trail.specs.declared.chain.Ends.{Ends}
use Rattle.link_trail.specs.Lists.{first_node, first_or, IsFree, list_at}
use Rattle.link_trail.specs.Chains.{stretch_between, free_node, node_at, ends_at, last_or, last_node, IsNoneOf, IsDistinct, AreChained}
use Rattle.link_trail.specs.Chains.{ShowsList, ShowsLists}
use Rattle.link_trail.specs.steps.Splices.{with_previous, with_first, with_last, with_next}
use Rattle.link_trail.proofs.ChainLemmas.{first-append, last-append, none-append, none-put, none-out, distinct-left, distinct-right, distinct-put}
use Rattle.link_trail.proofs.ChainLemmas.{distinct-out, last-apart, first-apart, none-last, none-first, last-list, first-list, other-list, linked-in_range}
use Rattle.link_trail.proofs.ChainLemmas.{next-other, previous-other, length-next, length-previous, chained-set, chained-next, chained-previous, chained-left}
use Rattle.link_trail.proofs.ChainLemmas.{chained-right, chained-join, chained-onward, chained-origin, ends-first, ends-last, first-other, last-other}
use Rattle.link_trail.proofs.ChainLemmas.{length-first, length-last}

-- the nodes once both neighbors and the node itself are written
abbrev pub spliced : List Node → Option ℕ → Option ℕ → Option ℕ → Option ℕ → ℕ → Node → List Node
spliced nodes previous onward next origin node v =
    set (with_previous (with_next nodes previous onward) next origin) node v

pub spliced-same : (nodes : List Node) (previous onward next origin : Option ℕ) (node : ℕ) (v : Node) → node < length nodes →
    node_at (spliced nodes previous onward next origin node v) node ≡ v
spliced-same nodes previous onward next origin node v l =
    grind (arith, common_steps, get_or-set_same, length-next, length-previous)

pub spliced-other : (nodes : List Node) (previous onward next origin : Option ℕ) (node : ℕ) (v : Node) (z : ℕ) →
    z ≢ node → ((p : ℕ) → previous ≡ Some p → z ≢ p) → ((n : ℕ) → next ≡ Some n → z ≢ n) →
    node_at (spliced nodes previous onward next origin node v) z ≡ node_at nodes z
spliced-other nodes previous onward next origin node v z nz np nn =
    grind (arith, common_steps, get_or-set_other, next-other, previous-other)

module _ (nodes : List Node) (list node : ℕ) (before after : List ℕ) (onward origin : Option ℕ) (v : Node) where
  -- the nodes before the place go on to `onward`
  pub spliced-front : (next : Option ℕ) → IsDistinct (before ++ after) → IsNoneOf node before →
      AreChained nodes (stretch_between list None next) before →
      AreChained (spliced nodes (last_node before) onward (first_node after) origin node v) (stretch_between list None onward) before
  spliced-front next d none h =
      grind (arith, common_steps, chained-onward, chained-previous, chained-set, distinct-left, first-apart)

  -- the nodes after the place come from `origin`
  pub spliced-back : (previous : Option ℕ) → IsDistinct (before ++ after) → IsNoneOf node after →
      AreChained nodes (stretch_between list previous None) after →
      AreChained (spliced nodes (last_node before) onward (first_node after) origin node v) (stretch_between list origin None) after
  spliced-back previous d none h =
      grind (arith, common_steps, chained-next, chained-origin, chained-set, distinct-right, last-apart)

  -- a chain that has none of the nodes that are written
  pub spliced-elsewhere : (other : ℕ) (xs : List ℕ) → IsNoneOf node xs →
      ((p : ℕ) → last_node before ≡ Some p → IsNoneOf p xs) → ((n : ℕ) → first_node after ≡ Some n → IsNoneOf n xs) →
      AreChained nodes (stretch_between other None None) xs →
      AreChained (spliced nodes (last_node before) onward (first_node after) origin node v) (stretch_between other None None) xs
  spliced-elsewhere other xs none np nn h = grind (arith, common_steps, chained-next, chained-previous, chained-set)

-- the ends once both are written
abbrev pub ends_written : List Ends → ℕ → List ℕ → List ℕ → Option ℕ → Option ℕ → List Ends
ends_written ends list before after onward origin =
    with_last (with_first ends list (last_node before) onward) list (first_node after) origin

pub ends_written-same : (ends : List Ends) (list : ℕ) (before after : List ℕ) (onward origin or or' : Option ℕ) →
    list < length ends → (ends_at ends list).first ≡ first_or before or → (ends_at ends list).last ≡ last_or or' after →
    ends_at (ends_written ends list before after onward origin) list
    ≡ record { first = first_or before onward; last = last_or origin after }
ends_written-same ends list before after onward origin or or' l ef el =
    grind (arith, common_steps, ends-first, ends-last, length-first)

pub ends_written-other : (ends : List Ends) (list : ℕ) (before after : List ℕ) (onward origin : Option ℕ) (other : ℕ) →
    other ≢ list → ends_at (ends_written ends list before after onward origin) other ≡ ends_at ends other
ends_written-other ends list before after onward origin other ne = grind (arith, common_steps, first-other, last-other)

pub length-ends_written : (ends : List Ends) (list : ℕ) (before after : List ℕ) (onward origin : Option ℕ) →
    length (ends_written ends list before after onward origin) ≡ length ends
length-ends_written ends list before after onward origin = grind (arith, common_steps, length-first, length-last)

-- a node of one list is none of another
pub elsewhere : (nodes : List Node) (list other : ℕ) (xs : List ℕ) (z : ℕ) → other ≢ list →
    AreChained nodes (stretch_between other None None) xs → (node_at nodes z).list ≡ Some list → IsNoneOf z xs
elsewhere nodes list other xs z ne h e = grind (arith, common_steps, other-list)

-- what is shown once one list has changed
pub ShowsLists-changed : (nodes nodes' : List Node) (ends ends' : List Ends) (lists : List (List ℕ)) (list : ℕ) (xs : List ℕ) →
    ShowsLists nodes ends lists → list < length lists → length ends' ≡ length ends →
    ShowsList nodes' list (ends_at ends' list) xs →
    ((other : ℕ) → other ≢ list → other < length lists → AreChained nodes' (stretch_between other None None) (list_at lists other)) →
    ((other : ℕ) → other ≢ list → ends_at ends' other ≡ ends_at ends other) →
    ((z : ℕ) → IsFree (set lists list xs) z → node_at nodes' z ≡ free_node) →
    ShowsLists nodes' ends' (set lists list xs)
ShowsLists-changed nodes nodes' ends ends' lists list xs shows l count here chained others free = record {
  count = count ∙ shows.count ∙ sym (length-set lists list xs);
  each = λ other lo. ⊎_elim
      (λ (e : other ≡ list). subst (λ k. ShowsList nodes' k (ends_at ends' k) (list_at (set lists list xs) k)) (sym e)
      (subst (λ ys. ShowsList nodes' list (ends_at ends' list) ys) (sym (get_or-set_same lists list xs [] l)) here))
      (λ (ne : other ≢ list).
      let lo' : other < length lists = omega (arith, length-set lists list xs) in
      let s = shows.each other lo' in
      subst (λ ys. ShowsList nodes' other (ends_at ends' other) ys) (sym (get_or-set_other lists list other xs [] ne))
      (record {
        chained = chained other ne lo';
        distinct = s.distinct;
        first = ap (λ (e : Ends). e.first) (others other ne) ∙ s.first;
        last = ap (λ (e : Ends). e.last) (others other ne) ∙ s.last;
      }))
      (cases_eq other list);
  free = free;
}

-- what the node of a list holds
pub ShowsLists-node : (nodes : List Node) (ends : List Ends) (lists : List (List ℕ)) (list node : ℕ) (before after : List ℕ) →
    ShowsLists nodes ends lists → list_at lists list ≡ before ++ node ∷ after → list < length lists →
    node_at nodes node ≡ record { list = Some list; previous = last_node before; next = first_node after }
ShowsLists-node nodes ends lists list node before after shows is l =
    let s : AreChained nodes (stretch_between list None None) (before ++ node ∷ after) =
    subst (λ ys. AreChained nodes (stretch_between list None None) ys) is (shows.each list l).chained in
    (chained-right nodes list None before (node ∷ after) None s).0

-- a node between two neighbors
pub ShowsLists-put : (nodes : List Node) (ends : List Ends) (lists : List (List ℕ)) (list node : ℕ) (before after : List ℕ) →
    ShowsLists nodes ends lists → IsFree lists node → list_at lists list ≡ before ++ after →
    list < length ends → node < length nodes →
    ShowsLists (spliced nodes (last_node before) (Some node) (first_node after) (Some node) node
    (record { list = Some list; previous = last_node before; next = first_node after }))
    (ends_written ends list before after (Some node) (Some node))
    (set lists list (before ++ node ∷ after))
ShowsLists-put nodes ends lists list node before after shows free is l n =
    let v : Node = record { list = Some list; previous = last_node before; next = first_node after } in
    let nodes' : List Node = spliced nodes (last_node before) (Some node) (first_node after) (Some node) node v in
    let ends' : List Ends = ends_written ends list before after (Some node) (Some node) in
    let ll : list < length lists = omega (arith, shows.count) in
    let s : ShowsList nodes list (ends_at ends list) (before ++ after) =
    subst (λ ys. ShowsList nodes list (ends_at ends list) ys) is (shows.each list ll) in
    let none : IsNoneOf node (before ++ after) = subst (λ ys. IsNoneOf node ys) is (free-none lists node list free ll) in
    let parts = none-append node before after none in
    let front = chained-left nodes list None before after None s.chained in
    let back = chained-right nodes list None before after None s.chained in
    let np : (p : ℕ) → last_node before ≡ Some p → (node_at nodes p).list ≡ Some list =
    last-list nodes list None before (first_or after None) front in
    let nn : (n : ℕ) → first_node after ≡ Some n → (node_at nodes n).list ≡ Some list =
    first-list nodes list (last_node before) after None back in
    let e = ends_written-same ends list before after (Some node) (Some node) (first_or after None) (last_node before) l
    (s.first ∙ first-append before after None) (s.last ∙ last-append None before after) in
    ShowsLists-changed nodes nodes' ends ends' lists list (before ++ node ∷ after) shows ll
    (length-ends_written ends list before after (Some node) (Some node))
    (record {
      chained = chained-join nodes' list None before (node ∷ after) None
          (spliced-front nodes list node before after (Some node) (Some node) v (first_or after None) s.distinct parts.0 front) (
            spliced-same nodes (last_node before) (Some node) (first_node after) (Some node) node v n,
            spliced-back nodes list node before after (Some node) (Some node) v (last_node before) s.distinct parts.1 back,
          );
      distinct = distinct-put node before after s.distinct none;
      first = ap (λ (x : Ends). x.first) e ∙ sym (first-append before (node ∷ after) None);
      last = ap (λ (x : Ends). x.last) e ∙ sym (last-append None before (node ∷ after));
    })
    (λ other ne lo.
    let h = (shows.each other lo).chained in
    spliced-elsewhere nodes list node before after (Some node) (Some node) v other (list_at lists other)
    (free-none lists node other free lo)
    (λ p ep. elsewhere nodes list other (list_at lists other) p ne h (np p ep))
    (λ k ek. elsewhere nodes list other (list_at lists other) k ne h (nn k ek)) h)
    (λ other ne. ends_written-other ends list before after (Some node) (Some node) other ne)
    (λ z fz.
    let here : IsNoneOf z (before ++ node ∷ after) =
    subst (λ ys. IsNoneOf z ys) (get_or-set_same lists list (before ++ node ∷ after) [] ll)
    (free-none (set lists list (before ++ node ∷ after)) z list fz (omega (arith, length-set lists list (before ++ node ∷ after)))) in
    let o = none-out z node before after here in
    let parts' = none-append z before after o.0 in
    spliced-other nodes (last_node before) (Some node) (first_node after) (Some node) node v z o.1
    (λ p ep. none-last z p before parts'.0 ep) (λ k ek. none-first z k after parts'.1 ek)
    ∙ shows.free z (free-before lists z list (before ++ node ∷ after) fz (subst (λ ys. IsNoneOf z ys) (sym is) o.0)))

-- the two neighbors without the node between them
pub ShowsLists-out : (nodes : List Node) (ends : List Ends) (lists : List (List ℕ)) (list node : ℕ) (before after : List ℕ) →
    ShowsLists nodes ends lists → list_at lists list ≡ before ++ node ∷ after → list < length ends →
    ShowsLists (spliced nodes (last_node before) (first_node after) (first_node after) (last_node before) node free_node)
    (ends_written ends list before after (first_node after) (last_node before))
    (set lists list (before ++ after))
ShowsLists-out nodes ends lists list node before after shows is l =
    let nodes' : List Node = spliced nodes (last_node before) (first_node after) (first_node after) (last_node before) node free_node in
    let ends' : List Ends = ends_written ends list before after (first_node after) (last_node before) in
    let ll : list < length lists = omega (arith, shows.count) in
    let s : ShowsList nodes list (ends_at ends list) (before ++ node ∷ after) =
    subst (λ ys. ShowsList nodes list (ends_at ends list) ys) is (shows.each list ll) in
    let d = distinct-out node before after s.distinct in
    let parts = none-append node before after d.1 in
    let front = chained-left nodes list None before (node ∷ after) None s.chained in
    let back = chained-right nodes list None before (node ∷ after) None s.chained in
    let nl : (node_at nodes node).list ≡ Some list = ap (λ (x : Node). x.list) back.0 in
    let np : (p : ℕ) → last_node before ≡ Some p → (node_at nodes p).list ≡ Some list =
    last-list nodes list None before (Some node) front in
    let nn : (n : ℕ) → first_node after ≡ Some n → (node_at nodes n).list ≡ Some list =
    first-list nodes list (Some node) after None back.1 in
    let e = ends_written-same ends list before after (first_node after) (last_node before) (Some node) (Some node) l
    (s.first ∙ first-append before (node ∷ after) None) (s.last ∙ last-append None before (node ∷ after)) in
    ShowsLists-changed nodes nodes' ends ends' lists list (before ++ after) shows ll
    (length-ends_written ends list before after (first_node after) (last_node before))
    (record {
      chained = chained-join nodes' list None before after None
          (spliced-front nodes list node before after (first_node after) (last_node before) free_node (Some node) d.0 parts.0 front)
          (spliced-back nodes list node before after (first_node after) (last_node before) free_node (Some node) d.0 parts.1 back.1);
      distinct = d.0;
      first = ap (λ (x : Ends). x.first) e ∙ sym (first-append before after None);
      last = ap (λ (x : Ends). x.last) e ∙ sym (last-append None before after);
    })
    (λ other ne lo.
    let h = (shows.each other lo).chained in
    spliced-elsewhere nodes list node before after (first_node after) (last_node before) free_node other (list_at lists other)
    (elsewhere nodes list other (list_at lists other) node ne h nl)
    (λ p ep. elsewhere nodes list other (list_at lists other) p ne h (np p ep))
    (λ k ek. elsewhere nodes list other (list_at lists other) k ne h (nn k ek)) h)
    (λ other ne. ends_written-other ends list before after (first_node after) (last_node before) other ne)
    (λ z fz.
    let here : IsNoneOf z (before ++ after) =
    subst (λ ys. IsNoneOf z ys) (get_or-set_same lists list (before ++ after) [] ll)
    (free-none (set lists list (before ++ after)) z list fz (omega (arith, length-set lists list (before ++ after)))) in
    let parts' = none-append z before after here in
    ⊎_elim
    (λ (ez : z ≡ node). subst (λ k. node_at nodes' k ≡ free_node) (sym ez)
    (spliced-same nodes (last_node before) (first_node after) (first_node after) (last_node before) node free_node
    (linked-in_range nodes list node nl)))
    (λ (nz : z ≢ node).
    spliced-other nodes (last_node before) (first_node after) (first_node after) (last_node before) node free_node z nz
    (λ p ep. none-last z p before parts'.0 ep) (λ k ek. none-first z k after parts'.1 ek)
    ∙ shows.free z (free-before lists z list (before ++ after) fz
    (subst (λ ys. IsNoneOf z ys) (sym is) (none-put z node before after here nz))))
    (cases_eq z node))
