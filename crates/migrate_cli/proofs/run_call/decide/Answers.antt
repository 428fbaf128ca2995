use Rattle.std.proofs.Common.{arith}
use Rattle.std.proofs.lemmas.Grind.{common_steps}
use Rattle.std.proofs.Common.{map, string_bytes}
use Rattle.migrate_words.proofs.Ranges.{ranges}
use Rattle.migrate_cli.proofs.AnswerFacts.{refusal_answer}
use Rattle.migrate_cli.proofs.run_call.decide.Goals as goal

pub decide_command-requires : goal.decide_command-requires
decide_command-requires g c = ranges (map string_bytes c.args.words.now) c.in-Ok.command c.in-Ok.ensures

pub returns-in-Err-clause-answer : goal.returns-in-Err-clause-answer
returns-in-Err-clause-answer g c = grind (arith, common_steps, refusal_answer)
