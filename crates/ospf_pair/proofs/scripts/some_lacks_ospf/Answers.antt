use Rattle.std.proofs.Common.{◌≡◌, Bool, ◌||◌, get_or, sym, ap, ◌∙◌}
use Rattle.std.proofs.lemmas.List.Folds.{list_any_at, list_any_more}
use Rattle.std.proofs.lemmas.Option.{slice_get_within, get_or_from_slice_get}
use Rattle.net_model.specs.Configuration.{Configuration}
use Rattle.ospf_pair.specs.PairScripts.{lacks_ospf}
use Rattle.ospf_pair.proofs.scripts.some_lacks_ospf.Goals as goal

pub returns-then-lacks_ospf : goal.returns-then-lacks_ospf
returns-then-lacks_ospf c =
    let it : Configuration = c.config.result.now in
    let at : get_or c.args.net.now c.loop-router.router it ≡ it = get_or_from_slice_get c.args.net.now c.loop-router.router it it c.config.ensures.router in
    sym (list_any_at lacks_ospf c.args.net.now c.loop-router.router it (slice_get_within c.args.net.now c.loop-router.router it c.config.ensures.router)
    (ap lacks_ospf at ∙ sym c.lacks_ospf.ensures ∙ c.if-lacks_ospf.true))

pub loop-router-preserved : goal.loop-router-preserved
loop-router-preserved c =
    let it : Configuration = c.config.result.now in
    let at : get_or c.args.net.now c.loop-router.router it ≡ it = get_or_from_slice_get c.args.net.now c.loop-router.router it it c.config.ensures.router in
    list_any_more lacks_ospf c.args.net.now c.loop-router.router it (slice_get_within c.args.net.now c.loop-router.router it c.config.ensures.router)
    ∙ ap (λ (b : Bool). b || lacks_ospf (get_or c.args.net.now c.loop-router.router it)) c.loop-router.invariant
    ∙ ap lacks_ospf at
    ∙ sym c.lacks_ospf.ensures
    ∙ c.if-lacks_ospf.false
