use Rattle.std.proofs.Common.{◌≡◌, ℕ, Some, get_or}
use Rattle.igp_theory.specs.Isis.{DownAnnouncement}
use Rattle.isis_routes.proofs.OfferLists.{given_more, holds_given, offers_same}
use Rattle.isis_routes.proofs.leaked.put_down_announcements.Goals as goal

pub loop-router-preserved : goal.loop-router-preserved
loop-router-preserved c =
    let down = DownAnnouncement c.args.domain.now.net c.args.one.now.dest in
    let u : ℕ = get_or c.args.leaking.now c.loop-router.router-index 0 in
    given_more down c.clear.new.self.items c.loop-router.offers.items c.push_cost.new.offers.items c.args.leaking.now
    c.loop-router.router-index c.loop-router-test.true c.loop-router.invariant
    (offers_same c.loop-router.offers.items c.push_cost.new.offers.items u (λ k. c.leaked_cost.result ≡ Some k) (down u)
    c.in_ok-push_cost.ensures c.leaked_cost.ensures)

pub returns : goal.returns
returns c =
    holds_given (DownAnnouncement c.args.domain.now.net c.args.one.now.dest) c.clear.new.self.items c.loop-router.offers.items
    c.args.leaking.now c.loop-router.router-index c.clear.ensures.items c.loop-router-test.false
    (λ b k announces. (c.requires.leaking b).1 announces.leaks) c.loop-router.invariant
