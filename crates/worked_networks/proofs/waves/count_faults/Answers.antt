use Rattle.std.proofs.Common.{length, sym, ap, ◌∙◌}
use Rattle.rib_mix.specs.Mixture.{Mixture}
use Rattle.worked_networks.proofs.waves.count_faults.Goals as goal

pub has_fault-requires : goal.has_fault-requires
has_fault-requires g c =
    c.in-Ok.ensures.ok.are.each
    ∙ sym (ap (λ (m : Mixture g.row.O.Denot g.row.N.Denot). length m.net) c.loop-code.invariant ∙ ap length c.requires)
