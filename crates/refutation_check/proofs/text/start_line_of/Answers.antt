use Rattle.std.proofs.lemmas.Grind.{common_steps}
use Rattle.std.proofs.Common.{arith, codes}
use Rattle.std.proofs.lemmas.List.{take_all}
use Rattle.net_model.specs.RouterNames.{names_of}
use Rattle.refutation_check.proofs.DoneWords.{many_names}
use Rattle.refutation_check.proofs.StartReading.{done_spaced}
use Rattle.refutation_check.proofs.text.start_line_of.Goals as goal

pub loop-router-preserved : goal.loop-router-preserved
loop-router-preserved c =
    done_spaced (names_of c.args.net.now) c.args.start.now c.loop-router.router c.loop-router.line _ (codes "start")
    (omega (arith, c.loop-router-test.true, c.requires, c.routers-router-end.ensures.count))
    (omega (arith, c.loop-router-test.true, many_names c.args.net.now, c.routers-router-end.ensures.count))
    c.loop-router.invariant c.in_ok-line-2.ensures

pub returns : goal.returns
returns c = grind (arith, common_steps, take_all)
