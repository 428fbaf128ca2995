use Rattle.std.proofs.Common.{Contains, subst}
use Rattle.std.proofs.lemmas.Bool.{false≢true}
use Rattle.step_scripts.specs.WaveFiles.{wave_at}
use Rattle.net_model.proofs.NetworkFacts.{IsNamed-unique}
use Rattle.step_scripts.proofs.waves_reading.names_one_of.Goals as goal

pub returns-in-None : goal.returns-in-None
returns-in-None c = (λ wrong. absurd (false≢true wrong), λ is. absurd (c.in-None.ensures.number is.router is.named))

pub returns-in-Some : goal.returns-in-Some
returns-in-Some c = (
  λ has. record { router = c.in-Some.router; named = c.in-Some.ensures.number; among = c.has.ensures.0 has },
  λ is. c.has.ensures.1
      (subst (Contains (wave_at c.args.seats.now c.args.wave)) (IsNamed-unique c.args.net.now c.args.name.now is.router
      c.in-Some.router c.in-Some.ensures.network.ascending is.named c.in-Some.ensures.number) is.among),
)
