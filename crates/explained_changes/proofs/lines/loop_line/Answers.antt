use Rattle.std.proofs.Common.{◌≡◌, ◌∙◌, ◌+◌, ◌<◌, ◌*◌, ◌++◌, ◌∷◌, [], ℕ, List, All, Contains, ap, length, refl, subst, sym}
use Rattle.std.proofs.lemmas.Result.{IfOk-weaker}
use Rattle.net_model.specs.Network.{Network}
use Rattle.net_model.specs.RouterNames.{names_of}
use Rattle.order_core.specs.Rankings.{rank_of}
use Rattle.order_core.specs.Turns.{old_routers}
use Rattle.order_core.specs.declared.turn.Turn.{Turn}
use Rattle.printed_lines.specs.Words.{spaced}
use Rattle.rib_mix.specs.Mixture.{migration_of}
use Rattle.change_orders.specs.TwoTexts.{item_word}
use Rattle.explained_texts.specs.ReasonTexts.{IsLowestBefore}
use Rattle.explained_texts.proofs.ReasonLines.{old_inside}
use Rattle.explained_changes.specs.ChangeReasonTexts.{IsChangeLine, change_comes_after, comes_words, loop_words}
use Rattle.explained_changes.proofs.AskedLists.{all_inside, all_must, few_waves, keeps_later, some_before}
use Rattle.explained_changes.proofs.lines.loop_line.Goals as goal

pub turns_by_changes-requires-clause-must : goal.turns_by_changes-requires-clause-must
turns_by_changes-requires-clause-must g c =
    let move = migration_of g.O.RouteSource.table g.N.RouteSource.table c.args.mixed.now in
    all_must move (λ u. refl) c.args.ranks.now c.args.told.0 c.requires.list c.requires.item c.args.told.1 c.args.ring.now c.requires.kept

pub lowest_before-after-requires-clause-few : goal.lowest_before-after-requires-clause-few
lowest_before-after-requires-clause-few g c =
    few_waves (length c.args.mixed.now.net) c.args.ranks.now c.requires.list.few c.requires.list.waves

pub lowest_before-after-requires-clause-some : goal.lowest_before-after-requires-clause-some
lowest_before-after-requires-clause-some g c =
    let move = migration_of g.O.RouteSource.table g.N.RouteSource.table c.args.mixed.now in
    let ranks = c.args.ranks.now in
    let i = c.args.told.0 in
    subst (λ (turns : List Turn). (k : ℕ) × Contains (old_routers turns) k × (rank_of ranks k + 1 ≡ rank_of ranks i)) (sym c.as_slice.ensures.value)
    (some_before move (λ u. refl) ranks i c.requires.list c.requires.item c.args.told.1 c.args.ring.now c.requires.kept
    c.in_ok-turns.turns.items c.in_ok-turns.ensures.numbered)

pub after_line-requires-clause-after : goal.after_line-requires-clause-after
after_line-requires-clause-after g c =
    let ranks = c.args.ranks.now in
    let turns = c.as_slice.result.now in
    old_inside turns (length ranks)
    (subst (λ (n : ℕ). All (λ (t : Turn). t.router < n) turns) (sym c.requires.list.waves.ranking.each)
    (subst (All (λ (t : Turn). t.router < 2 * length c.args.mixed.now.net)) (sym c.as_slice.ensures.value) c.in_ok-turns.ensures.below))
    c.lowest_before-after.result c.lowest_before-after.ensures.is_old

pub after_line-requires-clause-inside : goal.after_line-requires-clause-inside
after_line-requires-clause-inside g c =
    let move = migration_of g.O.RouteSource.table g.N.RouteSource.table c.args.mixed.now in
    subst (λ (n : Network). All (λ (t : Turn). t.router < length n) c.args.ring.now) (sym c.net.ensures)
    (all_inside move (λ u. refl) c.args.ranks.now c.args.told.0 c.requires.list c.requires.item c.args.told.1 c.args.ring.now c.requires.kept)

pub returns : goal.returns
returns g c =
    let move = migration_of g.O.RouteSource.table g.N.RouteSource.table c.args.mixed.now in
    let ranks = c.args.ranks.now in
    let i = c.args.told.0 in
    let a = c.args.told.1 in
    let ring = c.args.ring.now in
    let net = c.args.mixed.now.net in
    let some = c.net.result.now in
    let after = c.lowest_before-after.result in
    let turns = c.in_ok-turns.turns.items in
    IfOk-weaker c.after_line.result
    (λ (l : List ℕ). l ≡ item_word (names_of some) i ++ spaced (comes_words (names_of some) ranks i after (loop_words (names_of some) a ring)))
    (λ (l : List ℕ). IsChangeLine move ranks i (l ++ 10 ∷ []))
    (λ l is. subst (IsChangeLine move ranks i) (sym (ap (λ (t : List ℕ). t ++ 10 ∷ []) (is
    ∙ ap (λ (n : Network). item_word (names_of n) i ++ spaced (comes_words (names_of n) ranks i after (loop_words (names_of n) a ring))) c.net.ensures
    ∙ ap (λ (r : List Turn). item_word (names_of net) i ++ spaced (comes_words (names_of net) ranks i after (loop_words (names_of net) a r)))
    (sym c.in_ok-turns.ensures.numbered.ring))))
    (change_comes_after a after turns c.requires.item.later c.requires.item.apart
    (keeps_later move (λ u. refl) ranks i c.requires.list c.requires.item a ring c.requires.kept turns c.in_ok-turns.ensures.numbered)
    (subst (λ (l : List Turn). IsLowestBefore ranks l i after) c.as_slice.ensures.value c.lowest_before-after.ensures))) c.after_line.ensures
