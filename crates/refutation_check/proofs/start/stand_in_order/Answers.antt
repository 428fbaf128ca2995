use Rattle.std.proofs.lemmas.Grind.{common_steps}
use Rattle.std.proofs.Common.{refl, arith}
use Rattle.std.proofs.lemmas.Bool.{false≢true}
use Rattle.std.proofs.lemmas.List.{length-map}
use Rattle.net_addr.specs.Spans.{bytes_of}
use Rattle.refutation_check.specs.steps.Spans.{span_texts}
use Rattle.refutation_check.proofs.SpanPlaces.{word_at, word_in}
use Rattle.refutation_check.proofs.StartReading.{all_stand, broken, more_stand, none_stand}
use Rattle.refutation_check.proofs.start.stand_in_order.Goals as goal

pub loop-word-init : goal.loop-word-init
loop-word-init c = none_stand c.args.net.now (span_texts c.args.text.now c.args.words.now)

pub returns-in-None : goal.returns-in-None
returns-in-None c = grind (arith, common_steps, broken, false≢true, word_at, word_in)

pub loop-word-preserved : goal.loop-word-preserved
loop-word-preserved c = grind (arith, common_steps, more_stand, word_at)

pub returns : goal.returns
returns c = (
  λ e. all_stand c.args.net.now (span_texts c.args.text.now c.args.words.now) c.loop-word.word-index c.loop-word.most c.loop-word.invariant
      (omega (arith, c.loop-word-test.false, length-map c.args.words.now (bytes_of c.args.text.now))),
  λ pairs. refl,
)
