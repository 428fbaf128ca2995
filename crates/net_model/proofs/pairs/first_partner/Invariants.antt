use Rattle.net_model.specs.steps.Scans.{NonePartner}
use Rattle.net_model.proofs.pairs.first_partner.Given as goal

abbrev pub invariant-loop-two : goal.invariant-loop-two
invariant-loop-two g l = NonePartner (g.C.Clash.clash l.configs l.one) l.two l.one
