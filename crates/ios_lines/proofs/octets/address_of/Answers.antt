use Rattle.std.proofs.Common.{◌≡◌, sym, ap, ◌∙◌}
use Rattle.std.specs.List.{before_first, after_first}
use Rattle.ios_lines.specs.Words.{Word, is_dot, octet_of}
use Rattle.ios_lines.proofs.OctetFacts.{four_octets}
use Rattle.ios_lines.proofs.octets.address_of.Goals as goal

pub returns : goal.returns
returns c =
    let two : c.in_ok-first.behind_first.now ≡ after_first is_dot c.args.word.now = c.in_ok-first.ensures.behind in
    let three : c.in_ok-second.behind_second.now ≡ after_first is_dot (after_first is_dot c.args.word.now) =
    c.in_ok-second.ensures.behind ∙ ap (after_first is_dot) two in
    let four : c.in_ok-third.behind_third.now ≡ after_first is_dot (after_first is_dot (after_first is_dot c.args.word.now)) =
    c.in_ok-third.ensures.behind ∙ ap (after_first is_dot) three in
    sym (four_octets c.args.word.now c.in_ok-first.first c.in_ok-second.second c.in_ok-third.third c.in_ok-fourth.fourth
    c.in_ok-first.ensures.octet
    (ap (λ (w : Word). octet_of (before_first is_dot w)) (sym two) ∙ c.in_ok-second.ensures.octet)
    (ap (λ (w : Word). octet_of (before_first is_dot w)) (sym three) ∙ c.in_ok-third.ensures.octet)
    (ap octet_of (sym four) ∙ sym c.in_ok-fourth.ensures.value))
