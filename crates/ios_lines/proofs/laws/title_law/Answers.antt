use Rattle.ios_lines.proofs.TitleGroups.{title_word}
use Rattle.ios_lines.proofs.laws.title_law.Goals as goal

pub returns : goal.returns
returns c = title_word
