use Rattle.std.proofs.Common.{ℕ, List}
use Rattle.std.proofs.lemmas.Result.{IfOk-weaker}
use Rattle.loop_finder.specs.Parts.{ClassPart}
use Rattle.loop_finder.specs.Pieces.{IsMadeOf}
use Rattle.loop_finder.proofs.pieces.cut.Goals as goal

pub returns-clause-kept : goal.returns-clause-kept
returns-clause-kept c = IfOk-weaker c.add_whole-2.result
    (λ places. (other : ClassPart) (others : List ℕ) → IsMadeOf c.add_pieces.new.all.items other others → IsMadeOf c.add_whole-2.new.all.items other others)
    (λ places. (other : ClassPart) (others : List ℕ) → IsMadeOf c.args.all.now.items other others → IsMadeOf c.add_whole-2.new.all.items other others)
    (λ places keeps other others made. keeps other others (c.in_ok-add_pieces.ensures.kept other others made)) c.add_whole-2.ensures.kept
