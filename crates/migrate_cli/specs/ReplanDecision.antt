-- What `replan` decides of an order file, a journal and a network that is at its start, with a budget of branches.
use Rattle.std.specs.Prelude.{ℕ, ◌<◌, List, length, map}
use Rattle.net_model.specs.Refusals.{IsNetwork}
use Rattle.igp_theory.specs.Migrations.{Migration, ospf_to_isis, started}
use Rattle.igp_theory.specs.Phases.{state_in}
use Rattle.igp_theory.specs.States.{phase_after}
use Rattle.igp_theory.specs.declared.phase.Phase.{Phase}
use Rattle.plan_theory.specs.Plans.{IsPlanned}
use Rattle.plan_theory.specs.declared.planned.Planned.{Planned}
use Rattle.state_replay.specs.Journals.{HasReached, IsPlace, progress}
use Rattle.state_replay.specs.declared.place.Place.TheVariants as place
use Rattle.step_scripts.specs.FaultyLines.{IsLeastFaultyLine}
use Rattle.step_scripts.specs.WaveFiles.{NamesWaves}
use Rattle.step_scripts.specs.declared.kind.OrderKind.{OrderKind}
use Rattle.step_scripts.specs.declared.version.Version.{Version}
use Rattle.migration_report.specs.declared.decision.Decision.{Decision}
use Rattle.migration_report.specs.declared.decision.Decision.TheVariants.{Rest, Departs, BadOrder}
use Rattle.migrate_cli.specs.Reading.{NamedText}
use Rattle.migrate_cli.specs.ReplayDecision.{Journal}

-- the start of what is left, where so many changes are made on each router: its phase after these
abbrev pub phases_made : List ℕ → List Phase
phases_made done = map phase_after done

-- a migration that goes on where so many changes are made on each router
abbrev pub stopped_at : List ℕ → Migration → Migration
stopped_at done move = started (state_in (phases_made done)) move

-- what is decided of a journal of a wave list: where its changes are the first ones of some run, what is planned of what is left, with
-- the budget: the fault of the start or of the last state, the first that isn't sound; or, between sound ends, waves of the rest, a
-- closed tree, or one where the budget was spent. Else its first line that fits no run. There is a router at least, and the network
-- keeps what every network keeps
pub data IsRestPlanned (move : Migration) (journal : Journal) (ranks : List ℕ) (budget : ℕ) : Decision → Type 0 where
  plans_rest : (made : ℕ) (done : List ℕ) (planned : Planned) → HasReached (progress journal.net ranks done) journal.text made →
      0 < length move.net → IsNetwork move.net → IsPlanned (stopped_at done move) budget planned →
      IsRestPlanned move journal ranks budget (Rest (phases_made done) planned)
  departs : (line : ℕ) (done : List ℕ) → IsPlace (progress journal.net ranks done) journal.text (place.Departs line) →
      IsRestPlanned move journal ranks budget (Departs line)

-- the order file has a faulty line, or names a wave list of the routers, by which the journal is judged
pub data IsReplanDecision (order : NamedText) (journal : Journal) (budget : ℕ) : Decision → Type 0 where
  faulty_waves : (number : ℕ) (kind : OrderKind) → IsLeastFaultyLine journal.net order.text number kind →
      IsReplanDecision order journal budget (BadOrder order.file number kind)
  of_waves : (version : Version) (ranks : List ℕ) (decision : Decision) → NamesWaves journal.net order.text version ranks →
      IsRestPlanned (ospf_to_isis journal.net) journal ranks budget decision → IsReplanDecision order journal budget decision
