use Rattle.std.proofs.Common.{◌≡◌, ℕ, List, Option, None, Some, length, sym, arith, ◌∙◌}
use Rattle.std.specs.Option.{unwrap_or}
use Rattle.std.specs.List.{position_or_len}
use Rattle.std.proofs.lemmas.Bool.{false_from_ne_true}
use Rattle.std.proofs.lemmas.List.Sums.{position_or_len_is}
use Rattle.memchr.specs.Find.{IsFirstByte, is_byte}
use Rattle.net_addr.specs.Lines.{is_line_feed}
use Rattle.net_addr.proofs.line.piece_len.Goals as goal

found : (bytes : List ℕ) (place : Option ℕ) → IsFirstByte (is_byte 10) bytes place → unwrap_or place (length bytes) ≡ position_or_len is_line_feed bytes
found bytes None none =
    sym (position_or_len_is is_line_feed bytes (length bytes) 0 (omega arith) (λ k below. false_from_ne_true _ (none k (omega arith) below))
    (λ h. absurd (omega arith)))
found bytes (Some k) is =
    sym (position_or_len_is is_line_feed bytes k 0 (omega (arith, is.0.high)) (λ j below. false_from_ne_true _ (is.0.before j (omega arith) below))
    (λ h. is.1))

pub returns-clause-value : goal.returns-clause-value
returns-clause-value c = c.unwrap_or.ensures ∙ found c.args.bytes.now c.memchr.result c.memchr.ensures
