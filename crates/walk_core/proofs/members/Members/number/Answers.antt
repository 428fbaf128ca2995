use Rattle.std.proofs.Common.{refl, rules}
use Rattle.walk_core.proofs.MemberSteps.{numbered_as}
use Rattle.walk_core.proofs.members.Members.number.Goals as goal

pub returns-clause-numbered : goal.returns-clause-numbered
returns-clause-numbered c =
    numbered_as c.args.self.now c.args.vertex _ c.requires.numbered c.requires.next c.requires.within (search rules)
    (search rules) (search rules) refl
