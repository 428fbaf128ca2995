use Rattle.std.proofs.lemmas.Bool.{OnTrue_at, OnTrue_from}
use Rattle.net_model.proofs.ClaimFacts.{AddressesDiffer-claimed}
use Rattle.net_model.proofs.addresses.addresses_differ.Goals as goal

pub returns-then-agree : goal.returns-then-agree
returns-then-agree c = OnTrue_from c.own_addresses_differ.result _
    (λ yes. AddressesDiffer-claimed c.args.configs.now c.requires (OnTrue_at c.if-agree.true c.in_ok-agree.ensures)
    (OnTrue_at yes c.own_addresses_differ.ensures))
