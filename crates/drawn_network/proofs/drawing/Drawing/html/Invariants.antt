use Rattle.std.proofs.Common.{◌≡◌, ◌++◌, take}
use Rattle.drawn_network.specs.Quotes.{html}
use Rattle.drawn_network.proofs.drawing.Drawing.html.Given as goal

abbrev pub invariant-loop-byte : goal.invariant-loop-byte
invariant-loop-byte l = l.drawing ≡ l.fn.self ++ html (take l.byte-index l.text)
