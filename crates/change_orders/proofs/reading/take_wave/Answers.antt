use Rattle.std.proofs.Common.{◌≡◌, ℕ, ◌*◌, ◌<◌, List, Option, Some, map, length, All, Any, sym, ap, subst, ◌∙◌}
use Rattle.std.specs.List.{AllZip}
use Rattle.net_model.specs.Network.{Network}
use Rattle.change_orders.specs.steps.Found.{AreSeated, AscendWhereFound, DescendSomewhere, IsEarlyItem, IsItemFound, IsSeatTaken, LacksSome}
use Rattle.change_orders.specs.steps.Standing.{standing}
use Rattle.change_orders.proofs.FoundItems.{all_named, seating}
use Rattle.change_orders.proofs.ItemFacts.{items_below}
use Rattle.change_orders.proofs.TakenWaves.{lowest_again, lowest_early, lowest_unknown, lowest_unordered, wave_leads}
use Rattle.change_orders.proofs.reading.take_wave.Goals as goal

pub returns-then-not-are_in_order-clause-taken : goal.returns-then-not-are_in_order-clause-taken
returns-then-not-are_in_order-clause-taken c = λ lines line wave none led.
    lowest_unordered c.args.net.now c.requires.network.ascending lines line _ wave (standing c.args.read.now) led none c.in_ok-found.found.items
    c.in_ok-found.ensures (subst DescendSomewhere c.as_slice.ensures.value c.if-not-are_in_order.ensures)

pub returns-in_default-clause-taken : goal.returns-in_default-clause-taken
returns-in_default-clause-taken c = λ lines line wave none led.
    lowest_unknown c.args.net.now c.requires.network.ascending lines line _ wave (standing c.args.read.now) led none c.in_ok-found.found.items
    c.in_ok-found.ensures
    (subst (λ (l : List (Option ℕ)). AscendWhereFound l (length l)) c.as_slice.ensures.value c.if-not-are_in_order.ensures)
    (subst LacksSome c.as_slice-2.ensures.value (rw c.in_default.is at c.in_ok-items.ensures))

-- items that words name are below a count of all changes, however they are told
below : (net : Network) (words : List (List ℕ)) (found : List (Option ℕ)) (items told : List ℕ) (n : ℕ) → AllZip (IsItemFound net) words found →
    found ≡ map (λ (i : ℕ). Some i) items → told ≡ items → n ≡ 2 * length net → All (λ i. i < n) told
below net words found items told n zip all same count =
    let named = all_named net words items (subst (AllZip (IsItemFound net) words) all zip) in
    subst (λ (l : List ℕ). All (λ i. i < n) l) (sym same)
    (subst (λ (m : ℕ). All (λ i. i < m) items) (sym count) (items_below net words items named))

pub seat-requires : goal.seat-requires
seat-requires c =
    below c.args.net.now _ c.in_ok-found.found.items c.in-Some.items.items c.as_slice-3.result.now (length c.args.read.now.ranks.items)
    c.in_ok-found.ensures (sym c.as_slice-2.ensures.value ∙ rw c.in-Some.is at c.in_ok-items.ensures) c.as_slice-3.ensures.value c.requires.each

pub returns-then-not-seat-clause-taken : goal.returns-then-not-seat-clause-taken
returns-then-not-seat-clause-taken c = λ lines line wave none led.
    lowest_again c.args.net.now c.requires.network.ascending lines line _ wave (standing c.args.read.now) led none c.in_ok-found.found.items
    c.in_ok-found.ensures
    (subst (λ (l : List (Option ℕ)). AscendWhereFound l (length l)) c.as_slice.ensures.value c.if-not-are_in_order.ensures)
    c.in-Some.items.items (sym c.as_slice-2.ensures.value ∙ rw c.in-Some.is at c.in_ok-items.ensures)
    (subst (λ (l : List ℕ). IsSeatTaken l c.args.read.now.ranks.items) c.as_slice-3.ensures.value c.if-not-seat.ensures.seated)

pub some_early-requires : goal.some_early-requires
some_early-requires c =
    below c.args.net.now _ c.in_ok-found.found.items c.in-Some.items.items c.as_slice-5.result.now (length c.as_slice-4.result.now)
    c.in_ok-found.ensures (sym c.as_slice-2.ensures.value ∙ rw c.in-Some.is at c.in_ok-items.ensures) c.as_slice-5.ensures.value
    (ap length c.as_slice-4.ensures.value ∙ c.seat.ensures.count ∙ c.requires.each)

pub returns-then-some_early-clause-taken : goal.returns-then-some_early-clause-taken
returns-then-some_early-clause-taken c = λ lines line wave none led.
    lowest_early c.args.net.now c.requires.network.ascending lines line _ wave (standing c.args.read.now) led none c.in_ok-found.found.items
    c.in_ok-found.ensures
    (subst (λ (l : List (Option ℕ)). AscendWhereFound l (length l)) c.as_slice.ensures.value c.if-not-are_in_order.ensures)
    c.in-Some.items.items (sym c.as_slice-2.ensures.value ∙ rw c.in-Some.is at c.in_ok-items.ensures) c.seat.new.ranks.items
    (subst (λ (l : List ℕ). AreSeated (seating l c.args.read.now.waves c.args.read.now.ranks.items c.seat.new.ranks.items)) c.as_slice-3.ensures.value
    c.if-not-seat.ensures.seated)
    (subst (λ (l : List (Option ℕ)). Any (IsEarlyItem l c.args.read.now.waves) c.in-Some.items.items) c.as_slice-4.ensures.value
    (subst (λ (l : List ℕ). Any (IsEarlyItem c.as_slice-4.result.now c.args.read.now.waves) l) c.as_slice-5.ensures.value c.if-some_early.ensures))

pub returns-clause-taken : goal.returns-clause-taken
returns-clause-taken c = λ lines line wave none led.
    wave_leads c.args.net.now c.requires.network.ascending lines line _ wave (standing c.args.read.now) led none c.in_ok-found.found.items
    c.in_ok-found.ensures
    (subst (λ (l : List (Option ℕ)). AscendWhereFound l (length l)) c.as_slice.ensures.value c.if-not-are_in_order.ensures)
    c.in-Some.items.items (sym c.as_slice-2.ensures.value ∙ rw c.in-Some.is at c.in_ok-items.ensures) c.seat.new.ranks.items
    (subst (λ (l : List ℕ). AreSeated (seating l c.args.read.now.waves c.args.read.now.ranks.items c.seat.new.ranks.items)) c.as_slice-3.ensures.value
    c.if-not-seat.ensures.seated)
    (subst (λ (l : List (Option ℕ)). All (λ i. IsEarlyItem l c.args.read.now.waves i → ⊥) c.in-Some.items.items) c.as_slice-4.ensures.value
    (subst (λ (l : List ℕ). All (λ i. IsEarlyItem c.as_slice-4.result.now c.args.read.now.waves i → ⊥) l) c.as_slice-5.ensures.value
    c.if-some_early.ensures))
