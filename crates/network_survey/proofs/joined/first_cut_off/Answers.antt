use Rattle.std.proofs.Common.{◌≡◌, length, sym, ◌∙◌, arith}
use Rattle.std.proofs.lemmas.Grind.{common_steps}
use Rattle.network_survey.proofs.ReachFacts.{HaveMarks-of}
use Rattle.network_survey.proofs.joined.first_cut_off.Goals as goal

pub cut_off_by-requires-clause-ports : goal.cut_off_by-requires-clause-ports
cut_off_by-requires-clause-ports c =
    let long : length c.deref_mut.result.now ≡ c.routers-routers.result = grind (arith, common_steps) in
    HaveMarks-of c.args.net.now c.args.ports.now c.requires c.deref_mut.result.now (long ∙ c.routers-routers.ensures.count)

pub returns : goal.returns
returns c =
    let long : length c.deref_mut.result.now ≡ c.routers-routers.result = grind (arith, common_steps) in
    c.cut_off_by.ensures c.args.net.now c.requires (sym (long ∙ c.routers-routers.ensures.count))
