use Rattle.std.proofs.Common.{◌≡◌, ◌++◌, take}
use Rattle.drawn_network.specs.Quotes.{escaped}
use Rattle.drawn_network.proofs.drawing.Drawing.escaped.Given as goal

abbrev pub invariant-loop-byte : goal.invariant-loop-byte
invariant-loop-byte l = l.drawing ≡ l.fn.self ++ escaped (take l.byte-index l.text)
