use Rattle.std.proofs.Common.{◌≡◌, ◌++◌, map, take}
use Rattle.net_model.specs.RouterNames.{names_of}
use Rattle.printed_lines.specs.Words.{router_word, spaced}
use Rattle.explained_texts.proofs.uses.with_hops.Given as goal

abbrev pub invariant-loop-hop : goal.invariant-loop-hop
invariant-loop-hop l = l.line ≡ l.initial.line ++ spaced (map (router_word (names_of l.net)) (take l.hop-index l.hop-items))
