use Rattle.std.proofs.Common.{◌≡◌, ℕ, ◌<◌, ◌≤◌, take, get_or}
use Rattle.std.specs.Char.{IsAsciiDigit}
use Rattle.net_addr.specs.Numerals.{decimal_value}
use Rattle.net_addr.proofs.number.read_number.Given as goal

abbrev pub invariant-loop-byte : goal.invariant-loop-byte
invariant-loop-byte l = record {
  value : decimal_value (take l.byte-index l.word) ≡ l.value;
  digits : (k : ℕ) → k < l.byte-index → IsAsciiDigit (get_or l.word k 0);
  within : l.value ≤ l.most;
}
