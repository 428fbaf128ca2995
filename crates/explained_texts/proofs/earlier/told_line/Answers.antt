use Rattle.std.proofs.Common.{◌≡◌, ◌∙◌, ◌++◌, ◌∷◌, [], ℕ, List, IfNone, IfSome, Option, ap, subst, sym}
use Rattle.std.proofs.lemmas.Result.{IfOk-weaker}
use Rattle.net_model.specs.Network.{Network}
use Rattle.net_model.specs.RouterNames.{names_of}
use Rattle.loop_finder.specs.Faults.{told_fault}
use Rattle.loop_finder.specs.declared.fault.Fault.{Fault}
use Rattle.printed_lines.specs.Words.{joined, router_word}
use Rattle.rib_mix.specs.Mixture.{migration_of}
use Rattle.explained_waves.specs.Reasons.{MayBeEarlier}
use Rattle.explained_texts.specs.ReasonTexts.{IsReasonLine, KeepsLater, may_be_earlier, may_words}
use Rattle.explained_texts.proofs.earlier.told_line.Goals as goal

pub fault_line-requires-clause-kept : goal.fault_line-requires-clause-kept
fault_line-requires-clause-kept g c =
    let move = migration_of g.O.RouteSource.table g.N.RouteSource.table c.args.mixed.now in
    subst (λ (o : Option Fault). IfSome o (λ f. KeepsLater move c.args.ranks.now c.args.told.0 (told_fault f c.args.ring.now)))
    c.in-Some.is c.requires.kept

pub returns-in-None : goal.returns-in-None
returns-in-None g c =
    let move = migration_of g.O.RouteSource.table g.N.RouteSource.table c.args.mixed.now in
    let ranks = c.args.ranks.now in
    let v = c.args.told.0 in
    let net = c.net-net.result.now in
    IfOk-weaker c.may_line.result (λ (l : List ℕ). l ≡ joined (router_word (names_of net) v ∷ may_words ranks v))
    (λ (l : List ℕ). IsReasonLine move ranks v (l ++ 10 ∷ []))
    (λ l is. subst (IsReasonLine move ranks v) (sym (ap (λ (t : List ℕ). t ++ 10 ∷ []) (is
    ∙ ap (λ (n : Network). joined (router_word (names_of n) v ∷ may_words ranks v)) c.net-net.ensures)))
    (may_be_earlier c.requires.later
    (subst (λ (o : Option Fault). IfNone o (MayBeEarlier move ranks v)) c.in-None.is c.requires.free))) c.may_line.ensures
