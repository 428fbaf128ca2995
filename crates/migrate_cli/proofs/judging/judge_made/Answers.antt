use Rattle.std.proofs.lemmas.Grind.{common_steps}
use Rattle.std.proofs.Common.{arith}
use Rattle.std.proofs.lemmas.List.Elements.{All-cons}
use Rattle.migrate_cli.proofs.FileFacts.{sample_names, sample_number, sample_own}
use Rattle.sample_network.proofs.TextLengths.{sample_short}
use Rattle.migrate_cli.proofs.judging.judge_made.Goals as goal

pub sample_text-requires : goal.sample_text-requires
sample_text-requires c = grind (arith, common_steps, sample_number)

pub judge_texts-requires-clause-own : goal.judge_texts-requires-clause-own
judge_texts-requires-clause-own c = grind (arith, common_steps, sample_own)

pub judge_texts-requires-clause-each : goal.judge_texts-requires-clause-each
judge_texts-requires-clause-each c = grind (arith, common_steps, sample_names)

pub judge_texts-requires-clause-short : goal.judge_texts-requires-clause-short
judge_texts-requires-clause-short c = grind (arith, common_steps, All-cons, sample_number, sample_short)

pub returns : goal.returns
returns c = grind (arith, common_steps)
