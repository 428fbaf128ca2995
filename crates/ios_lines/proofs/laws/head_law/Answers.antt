use Rattle.ios_lines.proofs.HeadForms.{head_law}
use Rattle.ios_lines.proofs.laws.head_law.Goals as goal

pub returns : goal.returns
returns c = head_law
