use Rattle.std.proofs.Common.{◌∙◌, ◌++◌, ◌∷◌, [], ℕ, List, IfNone, IfOk, IfSome, ap, subst, sym}
use Rattle.order_core.specs.declared.turn.Turn.{Turn}
use Rattle.loop_finder.specs.Faults.{told_fault}
use Rattle.rib_mix.specs.Mixture.{Mixture, migration_of}
use Rattle.explained_waves.specs.Reasons.{MayBeEarlier}
use Rattle.explained_texts.specs.ReasonTexts.{IsReasonLine, KeepsLater}
use Rattle.explained_texts.specs.AskedLists.{AskedList}
use Rattle.explained_texts.proofs.earlier.EarlierList.reason_line.Goals as goal

pub told_line-requires-clause-free : goal.told_line-requires-clause-free
told_line-requires-clause-free g c =
    let old = g.O.RouteSource.table in
    let new = g.N.RouteSource.table in
    let v = c.args.router in
    let found = c.earlier_fault-found.result in
    let mixture_is = ap (λ (l : AskedList g.row.O.Denot g.row.N.Denot). l.mixture) c.self.view_is ∙ c.earlier_fault-found.ensures.mixture in
    let ranks_are = ap (λ (l : AskedList g.row.O.Denot g.row.N.Denot). l.ranks) c.self.view_is ∙ c.earlier_fault-found.ensures.ranks in
    subst (λ (m : Mixture g.row.O.Denot g.row.N.Denot). IfNone found (MayBeEarlier (migration_of old new m) c.self.inside.ranks.now v))
    (sym mixture_is)
    (subst (λ (l : List ℕ). IfNone found (MayBeEarlier (migration_of old new c.args.self.now.mixture) l v)) (sym ranks_are)
    c.earlier_fault-found.ensures.free)

pub told_line-requires-clause-kept : goal.told_line-requires-clause-kept
told_line-requires-clause-kept g c =
    let old = g.O.RouteSource.table in
    let new = g.N.RouteSource.table in
    let v = c.args.router in
    let found = c.earlier_fault-found.result in
    let mixture_is = ap (λ (l : AskedList g.row.O.Denot g.row.N.Denot). l.mixture) c.self.view_is ∙ c.earlier_fault-found.ensures.mixture in
    let ranks_are = ap (λ (l : AskedList g.row.O.Denot g.row.N.Denot). l.ranks) c.self.view_is ∙ c.earlier_fault-found.ensures.ranks in
    let ring_is = c.ring.ensures ∙ ap (λ (l : AskedList g.row.O.Denot g.row.N.Denot). l.ring) c.self.view_is in
    subst (λ (m : Mixture g.row.O.Denot g.row.N.Denot).
    IfSome found (λ f. KeepsLater (migration_of old new m) c.self.inside.ranks.now v (told_fault f c.ring.result.now))) (sym mixture_is)
    (subst (λ (l : List ℕ).
    IfSome found (λ f. KeepsLater (migration_of old new c.args.self.now.mixture) l v (told_fault f c.ring.result.now))) (sym ranks_are)
    (subst (λ (r : List Turn).
    IfSome found (λ f. KeepsLater (migration_of old new c.args.self.now.mixture) c.args.self.now.ranks v (told_fault f r))) (sym ring_is)
    c.earlier_fault-found.ensures.kept))

pub returns-clause-told : goal.returns-clause-told
returns-clause-told g c =
    let old = g.O.RouteSource.table in
    let new = g.N.RouteSource.table in
    let v = c.args.router in
    let mixture_is = ap (λ (l : AskedList g.row.O.Denot g.row.N.Denot). l.mixture) c.self.view_is ∙ c.earlier_fault-found.ensures.mixture in
    let ranks_are = ap (λ (l : AskedList g.row.O.Denot g.row.N.Denot). l.ranks) c.self.view_is ∙ c.earlier_fault-found.ensures.ranks in
    subst (λ (l : List ℕ). IfOk c.told_line.result (λ line. IsReasonLine (migration_of old new c.args.self.now.mixture) l v (line ++ 10 ∷ [])))
    ranks_are
    (subst (λ (m : Mixture g.row.O.Denot g.row.N.Denot).
    IfOk c.told_line.result (λ line. IsReasonLine (migration_of old new m) c.self.inside.ranks.now v (line ++ 10 ∷ []))) mixture_is
    c.told_line.ensures)
