-- Octets, cut off one after the other.
use Rattle.std.specs.Prelude.{Bool, ◌||◌, length, is_none, nat_eq}
use Rattle.std.specs.List.{before_first, after_first}
use Rattle.ios_lines.specs.Words.{Word, is_dot, octet_of}

-- no octet stands before the first dot of a word, or nothing behind that dot
abbrev pub lacks_octet : Word → Bool
lacks_octet word = is_none (octet_of (before_first is_dot word)) || nat_eq (length (after_first is_dot word)) 0
