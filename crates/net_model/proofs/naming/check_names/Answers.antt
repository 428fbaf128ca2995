use Rattle.std.proofs.Common.{ℕ, List, ap, sym, subst}
use Rattle.std.proofs.lemmas.List.Sorted.{IsPermutation-refl}
use Rattle.net_model.specs.Configuration.{Configuration}
use Rattle.net_model.specs.steps.Doubles.{IsTwoNames}
use Rattle.net_model.specs.Refusals.{IsLeastDouble, RefusesName}
use Rattle.net_model.specs.declared.refusal.NetRefusal.{NetRefusal}
use Rattle.net_model.specs.declared.refusal.NetRefusal.TheVariants.{TwoNames, OutOfMemory}
use Rattle.net_model.proofs.Names.{NamesAscend-from_sorted, IsLeastDouble-first}
use Rattle.net_model.proofs.naming.check_names.Goals as goal

refused : (configs : List Configuration) (name : List ℕ) (refusal : NetRefusal) → IsLeastDouble configs name → IsTwoNames name refusal →
    RefusesName refusal configs
refused configs name (TwoNames least) double h = subst (IsLeastDouble configs) (sym h) double
refused configs name OutOfMemory double h = tt
refused configs name _ double h = absurd h

pub returns-in-Some-clause-err : goal.returns-in-Some-clause-err
returns-in-Some-clause-err c =
    let net = c.args.configs.now in
    let config = c.index-configs-place.result in
    refused net config.name c.two_names.result
    (IsLeastDouble-first net net c.in-Some.place config.name config (IsPermutation-refl net) c.requires c.in-Some.ensures
    (ap (λ (x : Configuration). x.name) (sym c.index-configs-place.is)))
    c.two_names.ensures

pub returns-in-None-clause-ok : goal.returns-in-None-clause-ok
returns-in-None-clause-ok c = NamesAscend-from_sorted c.args.configs.now c.requires c.in-None.ensures
