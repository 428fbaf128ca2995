use Rattle.std.proofs.Common.{List, sym, subst, ◌∙◌}
use Rattle.net_model.specs.Configuration.{Configuration}
use Rattle.net_model.specs.Lookups.{IsNamed}
use Rattle.net_model.proofs.net.Net.number_of.Goals as goal

pub returns-in-None-clause-number : goal.returns-in-None-clause-number
returns-in-None-clause-number c = λ u n.
    c.in-None.ensures.named u (subst (λ (l : List Configuration). IsNamed l c.args.name.now u) (sym (c.as_slice.ensures.value ∙ c.self.view_is)) n)
