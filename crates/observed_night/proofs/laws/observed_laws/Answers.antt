use Rattle.observed_night.proofs.ObservedFacts.{journal_finds, one_observed}
use Rattle.observed_night.proofs.SightFacts.{night_differs_not}
use Rattle.observed_night.proofs.StateFacts.{astray_shows_none, one_phase}
use Rattle.observed_night.proofs.laws.observed_laws.Goals as goal

pub returns : goal.returns
returns c = record {
  one = one_observed;
  journal = journal_finds;
  astray = astray_shows_none;
  alike = λ before now name part ascend night differs. night_differs_not before now name ascend night differs;
  one_phase = one_phase;
}
