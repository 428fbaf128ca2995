use Rattle.std.proofs.Common.{◌∙◌, sym, below_more, arith}
use Rattle.std.proofs.lemmas.Bool.{false≢true}
use Rattle.step_scripts.proofs.WaveLists.{seat_of}
use Rattle.step_scripts.proofs.seats.Seats.wave_among.Goals as goal

pub loop-wave-preserved : goal.loop-wave-preserved
loop-wave-preserved c = below_more _ _ c.loop-wave.invariant (λ among. false≢true (sym c.if-has.false ∙ c.has.ensures.1 among))

pub returns : goal.returns
returns c = λ has.
    let its = seat_of c.args.self.now c.args.router has in
    c.loop-wave.invariant its.0 (omega (arith, its.1.within, c.count-wave-end.ensures, c.loop-wave-test.false)) its.1.among
