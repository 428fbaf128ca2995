use Rattle.std.proofs.Common.{◌≡◌, ◌∙◌, ◌*◌, ◌++◌, ◌∷◌, [], ℕ, List, IfNone, IfSome, Option, ap, length, subst, sym}
use Rattle.std.proofs.lemmas.Result.{IfOk-weaker}
use Rattle.net_model.specs.Network.{Network}
use Rattle.net_model.specs.RouterNames.{names_of}
use Rattle.loop_finder.specs.Faults.{told_fault}
use Rattle.loop_finder.specs.declared.fault.Fault.{Fault}
use Rattle.printed_lines.specs.Words.{spaced}
use Rattle.rib_mix.specs.Mixture.{migration_of}
use Rattle.change_orders.specs.TwoTexts.{item_word}
use Rattle.explained_texts.specs.ReasonTexts.{may_words}
use Rattle.explained_changes.specs.ChangeReasons.{ChangeMayBeEarlier}
use Rattle.explained_changes.specs.ChangeReasonTexts.{IsChangeLine, change_may_be_earlier}
use Rattle.explained_changes.specs.steps.Asked.{HasFaultEarlier}
use Rattle.explained_changes.proofs.lines.told_line.Goals as goal

pub may_line-requires-clause-item : goal.may_line-requires-clause-item
may_line-requires-clause-item g c = c.requires.item.within

pub may_line-requires-clause-each : goal.may_line-requires-clause-each
may_line-requires-clause-each g c =
    c.requires.list.waves.ranking.each ∙ ap (λ (n : Network). 2 * length n) (sym c.net.ensures)

pub fault_line-requires-clause-kept : goal.fault_line-requires-clause-kept
fault_line-requires-clause-kept g c =
    let move = migration_of g.O.RouteSource.table g.N.RouteSource.table c.args.mixed.now in
    subst (λ (o : Option Fault). IfSome o (λ f. HasFaultEarlier move c.args.ranks.now c.args.told.0 (told_fault f c.args.ring.now)))
    c.in-Some.is c.requires.kept

pub returns-in-None : goal.returns-in-None
returns-in-None g c =
    let move = migration_of g.O.RouteSource.table g.N.RouteSource.table c.args.mixed.now in
    let ranks = c.args.ranks.now in
    let i = c.args.told.0 in
    let net = c.net.result.now in
    IfOk-weaker c.may_line.result (λ (l : List ℕ). l ≡ item_word (names_of net) i ++ spaced (may_words ranks i))
    (λ (l : List ℕ). IsChangeLine move ranks i (l ++ 10 ∷ []))
    (λ l is. subst (IsChangeLine move ranks i) (sym (ap (λ (t : List ℕ). t ++ 10 ∷ []) (is
    ∙ ap (λ (n : Network). item_word (names_of n) i ++ spaced (may_words ranks i)) c.net.ensures)))
    (change_may_be_earlier c.requires.item.later c.requires.item.apart
    (subst (λ (o : Option Fault). IfNone o (ChangeMayBeEarlier move ranks i)) c.in-None.is c.requires.free))) c.may_line.ensures
