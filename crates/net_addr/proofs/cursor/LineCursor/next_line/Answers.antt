use Rattle.std.proofs.Common.{◌≡◌, ℕ, ◌+◌, ◌<◌, List, ◌∷◌, length, take, drop, map, sym, ap, ◌∙◌, arith}
use Rattle.std.specs.Str.Lines.{strip_carriage_return}
use Rattle.net_addr.specs.Lines.{line_texts}
use Rattle.net_addr.proofs.PieceFacts.{line_pieces-first}
use Rattle.net_addr.proofs.cursor.LineCursor.next_line.Goals as goal

pub returns-clause-some : goal.returns-clause-some
returns-clause-some c =
    let rest : List ℕ = c.self.inside.rest.now in
    let n : ℕ = c.piece_len-stop.result in
    let some : 0 < length rest = grind (arith, c.if-is_empty.ensures) in
    let line : c.without_return-line.result.now ≡ strip_carriage_return (take n rest) = c.without_return-line.ensures in
    sym c.self.view_is
    ∙ ap (map strip_carriage_return) (line_pieces-first rest n c.piece_len-stop.ensures.value some)
    ∙ ap (λ (l : List ℕ). l ∷ line_texts (drop (n + 1) rest)) (sym line)
    ∙ ap (λ (r : List ℕ). c.without_return-line.result.now ∷ line_texts r) (sym c.behind-self-inside.ensures)
