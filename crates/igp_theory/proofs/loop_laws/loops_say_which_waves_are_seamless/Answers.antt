use Rattle.igp_theory.proofs.LoopLaws.{loop_has_both_tags}
use Rattle.igp_theory.proofs.LoopsDecide.{seamless_puts_old_first, old_first_is_seamless}
use Rattle.igp_theory.proofs.loop_laws.loops_say_which_waves_are_seamless.Goals as goal

pub returns : goal.returns
returns g c = record {
  both_tags = λ a ring ends is. loop_has_both_tags g.T.AnyMigration.migration a ring ends is;
  seamless = λ ranks seamless. seamless_puts_old_first g.T.AnyMigration.migration ranks seamless;
  exact = λ ranks ends waves. (
    seamless_puts_old_first g.T.AnyMigration.migration ranks,
    old_first_is_seamless g.T.AnyMigration.migration ranks ends waves,
  );
}
