use Rattle.std.proofs.Common.{arith}
use Rattle.std.proofs.lemmas.Grind.{common_steps}
use Rattle.std.proofs.lemmas.List.Elements.{All-push}
use Rattle.loop_finder.proofs.PieceLaws.{IsMadeOf-more}
use Rattle.loop_finder.proofs.pieces.add_piece.Goals as goal

pub returns-clause-all : goal.returns-clause-all
returns-clause-all c = grind (arith, common_steps, All-push)

pub returns-clause-kept : goal.returns-clause-kept
returns-clause-kept c other others made =
    IsMadeOf-more c.args.all.now.items c.push.new.self.items c.in_ok-piece.piece other others c.in_ok-push.ensures.items made
