use Rattle.std.proofs.Common.{◌++◌, List, map, ap, ◌∙◌, sym}
use Rattle.std.proofs.lemmas.List.{take_all, append-nil}
use Rattle.net_model.specs.RouterNames.{names_of}
use Rattle.order_core.specs.declared.turn.Turn.{Turn}
use Rattle.printed_lines.specs.Words.{spaced}
use Rattle.explained_texts.specs.RingWords.{tagged_word}
use Rattle.explained_texts.proofs.ring.with_turns.Goals as goal

pub loop-turn-init : goal.loop-turn-init
loop-turn-init c = sym (append-nil c.args.line)

pub returns : goal.returns
returns c =
    c.loop-turn.invariant
    ∙ ap (λ (l : List Turn). c.args.line ++ spaced (map (tagged_word (names_of c.args.net.now)) l))
    (take_all c.loop-turn.turn-index c.args.ring.now c.loop-turn-test.false)
