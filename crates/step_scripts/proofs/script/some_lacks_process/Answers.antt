use Rattle.std.proofs.Common.{◌≡◌, Bool, ◌||◌, get_or, sym, ap, ◌∙◌}
use Rattle.std.proofs.lemmas.List.Folds.{list_any_at, list_any_more}
use Rattle.std.proofs.lemmas.Option.{slice_get_within, get_or_from_slice_get}
use Rattle.net_model.specs.Configuration.{Configuration}
use Rattle.step_scripts.specs.Scripts.{lacks_process}
use Rattle.step_scripts.proofs.script.some_lacks_process.Goals as goal

pub returns-then-lacks_process : goal.returns-then-lacks_process
returns-then-lacks_process c =
    let it : Configuration = c.config.result.now in
    let at : get_or c.args.net.now c.loop-router.router it ≡ it = get_or_from_slice_get c.args.net.now c.loop-router.router it it c.config.ensures.router in
    sym (list_any_at lacks_process c.args.net.now c.loop-router.router it (slice_get_within c.args.net.now c.loop-router.router it c.config.ensures.router)
    (ap lacks_process at ∙ sym c.lacks_process.ensures ∙ c.if-lacks_process.true))

pub loop-router-preserved : goal.loop-router-preserved
loop-router-preserved c =
    let it : Configuration = c.config.result.now in
    let at : get_or c.args.net.now c.loop-router.router it ≡ it = get_or_from_slice_get c.args.net.now c.loop-router.router it it c.config.ensures.router in
    list_any_more lacks_process c.args.net.now c.loop-router.router it (slice_get_within c.args.net.now c.loop-router.router it c.config.ensures.router)
    ∙ ap (λ (b : Bool). b || lacks_process (get_or c.args.net.now c.loop-router.router it)) c.loop-router.invariant
    ∙ ap lacks_process at
    ∙ sym c.lacks_process.ensures
    ∙ c.if-lacks_process.false
