use Rattle.std.proofs.Common.{◌≡◌, length, arith}
use Rattle.std.proofs.lemmas.Bool.{false≢true}
use Rattle.isis_routes.proofs.AreaFacts.{not_leaving}
use Rattle.isis_routes.proofs.attached.leaves_area.Goals as goal

pub returns : goal.returns
returns c =
    let count : length c.args.net.now ≡ c.loop-other.other = omega (arith, c.routers-other-end.ensures.count) in
    (λ e. absurd (false≢true e), λ leaves. absurd (not_leaving c.args.net.now c.args.router c.loop-other.other count c.loop-other.invariant leaves))
