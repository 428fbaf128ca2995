use Rattle.std.proofs.Common.{arith}
use Rattle.std.proofs.lemmas.Grind.{common_steps}
use Rattle.std.proofs.lemmas.List.{take_rest}
use Rattle.ios_sections.proofs.PlaceFacts.{own_from}
use Rattle.ios_sections.proofs.read_section.own_lines.Goals as goal

pub returns : goal.returns
returns c = grind (arith, common_steps, own_from, take_rest)
