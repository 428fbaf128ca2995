use Rattle.std.proofs.Common.{◌≡◌, ◌∙◌, Some, ap, sym}
use Rattle.std.proofs.lemmas.Option.{same_Some}
use Rattle.std.proofs.lemmas.Result.{on_ok_weaker}
use Rattle.net_addr.specs.Addresses.{Block}
use Rattle.route_tables.proofs.ListFacts.{adds_same}
use Rattle.route_tables.proofs.candidates.Candidates.add_option.Goals as goal

pub returns-in-Some-clause-ok : goal.returns-in-Some-clause-ok
returns-in-Some-clause-ok c =
    let p : Block = c.in-Some.dest in
    on_ok_weaker c.add.result
    (λ adds. adds_same c.args.self.now c.add.new.self (λ q. p ≡ q) (λ q. c.args.dest ≡ Some q) adds
    (λ q. (λ same. c.in-Some.is ∙ ap Some same, λ is. same_Some p q (sym c.in-Some.is ∙ is))))
    c.add.ensures.ok
