use Rattle.std.proofs.Common.{subst, sym}
use Rattle.net_addr.specs.AddressWords.{IsOctet}
use Rattle.net_addr.proofs.AddressWordFacts.{rest_one, rest_two, rest_three}
use Rattle.net_addr.proofs.address.read_addr.Goals as goal

pub returns-in_err-second : goal.returns-in_err-second
returns-in_err-second c =
    rw c.from_residual-in_err-second.ensures
    (λ a x. c.in_err-second.ensures.none x.second _ x.second_octet (rest_one _ _ _ a c.in_ok-first.ensures.some x))

pub returns-in_err-third : goal.returns-in_err-third
returns-in_err-third c =
    rw c.from_residual-in_err-third.ensures
    (λ a x. c.in_err-third.ensures.none x.third _ x.third_octet (rest_two _ _ _ _ _ a c.in_ok-first.ensures.some c.in_ok-second.ensures.some x))

pub returns-in_err-fourth : goal.returns-in_err-fourth
returns-in_err-fourth c =
    rw c.from_residual-in_err-fourth.ensures
    (λ a x.
    c.in_err-fourth.ensures
    (subst IsOctet (sym (rest_three _ _ _ _ _ _ _ a c.in_ok-first.ensures.some c.in_ok-second.ensures.some c.in_ok-third.ensures.some x)) x.fourth_octet))
