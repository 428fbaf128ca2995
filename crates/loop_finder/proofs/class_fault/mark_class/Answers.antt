use Rattle.std.proofs.Common.{◌≡◌, ℕ, ◌<◌, ◌↔◌, length, ap, ◌∙◌, subst}
use Rattle.net_model.specs.Network.{Network, Connected}
use Rattle.net_model.specs.Refusals.{IsNetwork}
use Rattle.igp_theory.specs.Forwarding.{IsTarget}
use Rattle.order_core.specs.Marks.{IsMarked}
use Rattle.loop_finder.specs.Mixes.{sample_of}
use Rattle.loop_finder.proofs.ClassVerdicts.{forwarders_from}
use Rattle.loop_finder.proofs.class_fault.mark_class.Goals as goal

pub returns-in-Some-clause-forwarders : goal.returns-in-Some-clause-forwarders
returns-in-Some-clause-forwarders g c =
    let target : IsTarget c.args.mixed.now.net (sample_of c.args.mixed.now.classes c.args.atom) c.in-Some.target = c.in-Some.ensures.target in
    let network : IsNetwork c.args.mixed.now.net = subst IsNetwork c.net.ensures c.routers-routers.ensures.network in
    let many : c.routers-routers.result ≡ length c.args.mixed.now.net = c.routers-routers.ensures.count ∙ ap (λ (n : Network). length n) c.net.ensures in
    let marks : (u : ℕ) → IsMarked c.mark_forwarders.new.forwards u
    ↔ ((u < length c.args.mixed.now.net) × (¬ Connected c.args.mixed.now.net u c.in-Some.target)) =
    subst (λ (k : ℕ). (u : ℕ) → IsMarked c.mark_forwarders.new.forwards u ↔ ((u < k) × (¬ Connected c.args.mixed.now.net u c.in-Some.target)))
    many c.mark_forwarders.ensures in
    forwarders_from c.args.mixed.now.net (sample_of c.args.mixed.now.classes c.args.atom) c.in-Some.target c.mark_forwarders.new.forwards network
    target marks
