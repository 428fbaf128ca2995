use Rattle.std.proofs.Common.{◌≡◌, ◌∙◌, ◌<◌, ◌++◌, ◌∷◌, [], ℕ, List, All, ap, length, subst, sym}
use Rattle.std.proofs.lemmas.Result.{IfOk-weaker}
use Rattle.net_model.specs.Network.{Network}
use Rattle.net_model.specs.RouterNames.{names_of}
use Rattle.order_core.specs.declared.turn.Turn.{Turn}
use Rattle.loop_finder.specs.Faults.{told_fault}
use Rattle.loop_finder.specs.declared.fault.Fault.{Fault}
use Rattle.printed_lines.specs.Words.{joined, router_word}
use Rattle.rib_mix.specs.Mixture.{migration_of}
use Rattle.explained_texts.specs.ReasonTexts.{IsReasonLine, KeepsLater, after_words, comes_after}
use Rattle.explained_texts.proofs.ReasonLines.{all_inside, old_inside, some_before}
use Rattle.explained_texts.proofs.earlier.fault_line.Goals as goal

pub lowest_before-after-requires-clause-inside : goal.lowest_before-after-requires-clause-inside
lowest_before-after-requires-clause-inside g c =
    let move = migration_of g.O.RouteSource.table g.N.RouteSource.table c.args.mixed.now in
    let ranks = c.args.ranks.now in
    let v = c.args.told.0 in
    let ring = c.args.ring.now in
    let a = c.in-Loop.address in
    subst (λ (n : ℕ). All (λ (t : Turn). t.router < n) ring) (sym c.requires.each) (all_inside move ranks v a ring
    (subst (λ (f : Fault). KeepsLater move ranks v (told_fault f ring)) c.in-Loop.is c.requires.kept))

pub lowest_before-after-requires-clause-some : goal.lowest_before-after-requires-clause-some
lowest_before-after-requires-clause-some g c =
    let move = migration_of g.O.RouteSource.table g.N.RouteSource.table c.args.mixed.now in
    let ranks = c.args.ranks.now in
    let v = c.args.told.0 in
    let ring = c.args.ring.now in
    some_before move ranks v c.in-Loop.address ring
    (subst (λ (f : Fault). KeepsLater move ranks v (told_fault f ring)) c.in-Loop.is c.requires.kept)

pub after_line-requires-clause-after : goal.after_line-requires-clause-after
after_line-requires-clause-after g c =
    let move = migration_of g.O.RouteSource.table g.N.RouteSource.table c.args.mixed.now in
    let ranks = c.args.ranks.now in
    let v = c.args.told.0 in
    let ring = c.args.ring.now in
    let after = c.lowest_before-after.result in
    subst (λ (n : Network). after < length n) (sym c.net-net.ensures)
    (old_inside ring (length c.args.mixed.now.net) (all_inside move ranks v c.in-Loop.address ring
    (subst (λ (f : Fault). KeepsLater move ranks v (told_fault f ring)) c.in-Loop.is c.requires.kept))
    after c.lowest_before-after.ensures.is_old)

pub after_line-requires-clause-inside : goal.after_line-requires-clause-inside
after_line-requires-clause-inside g c =
    let move = migration_of g.O.RouteSource.table g.N.RouteSource.table c.args.mixed.now in
    let ranks = c.args.ranks.now in
    let v = c.args.told.0 in
    let ring = c.args.ring.now in
    subst (λ (n : Network). All (λ (t : Turn). t.router < length n) ring) (sym c.net-net.ensures)
    (all_inside move ranks v c.in-Loop.address ring
    (subst (λ (f : Fault). KeepsLater move ranks v (told_fault f ring)) c.in-Loop.is c.requires.kept))

pub returns : goal.returns
returns g c =
    let move = migration_of g.O.RouteSource.table g.N.RouteSource.table c.args.mixed.now in
    let ranks = c.args.ranks.now in
    let v = c.args.told.0 in
    let ring = c.args.ring.now in
    let net = c.net-net.result.now in
    let a = c.in-Loop.address in
    let after = c.lowest_before-after.result in
    IfOk-weaker c.after_line.result
    (λ (l : List ℕ). l ≡ joined (router_word (names_of net) v ∷ after_words (names_of net) ranks v after a ring))
    (λ (l : List ℕ). IsReasonLine move ranks v (l ++ 10 ∷ []))
    (λ l is. subst (IsReasonLine move ranks v) (sym (ap (λ (t : List ℕ). t ++ 10 ∷ []) (is
    ∙ ap (λ (n : Network). joined (router_word (names_of n) v ∷ after_words (names_of n) ranks v after a ring)) c.net-net.ensures)))
    (comes_after a after ring c.requires.later
    (subst (λ (f : Fault). KeepsLater move ranks v (told_fault f ring)) c.in-Loop.is c.requires.kept)
    c.lowest_before-after.ensures)) c.after_line.ensures
