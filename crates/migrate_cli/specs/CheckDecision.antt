-- What `check` decides of an order file and a network that is at its start.
use Rattle.std.specs.Prelude.{ℕ, List}
use Rattle.net_model.specs.Network.{Network}
use Rattle.igp_theory.specs.Loops.{IsFirstFault}
use Rattle.igp_theory.specs.Migrations.{Migration, ospf_to_isis}
use Rattle.igp_theory.specs.States.{IsSeamless}
use Rattle.igp_theory.specs.Timetables.{router_times}
use Rattle.igp_theory.specs.WaveFaults.{IsTimesFault}
use Rattle.igp_theory.specs.Waves.{AreSeamlessWaves}
use Rattle.order_core.specs.Rankings.{flat_of, wave_count}
use Rattle.plan_theory.specs.Plans.{fault_told}
use Rattle.plan_theory.specs.declared.planned.EndFault.{EndFault}
use Rattle.step_scripts.specs.FaultyLines.{IsLeastFaultyLine}
use Rattle.step_scripts.specs.WaveFiles.{NamesWaves}
use Rattle.step_scripts.specs.declared.version.Version.TheVariants.{One, Two}
use Rattle.step_scripts.specs.declared.kind.OrderKind.{OrderKind}
use Rattle.migration_report.specs.declared.decision.Decision.{Decision}
use Rattle.migration_report.specs.declared.decision.Decision.TheVariants.{Safe, SafeWaves, Unsafe, UnsafeWave, BadOrder}
use Rattle.change_orders.specs.TwoFaults.{two_header}
use Rattle.migrate_cli.specs.ChangesDecision.{IsChangesCheck}
use Rattle.migrate_cli.specs.FirstLines.{BeginsWith}
use Rattle.migrate_cli.specs.Reading.{NamedText}

-- what is decided of an order, by the tables of the two protocols: it is safe where in every state of it each packet
-- for an address with a target reaches an originator from every router, along every equal-cost choice; else its first state
-- that isn't sound is told
pub data IsOrderDecision (move : Migration) (order : List ℕ) : Decision → Type 0 where
  safe : IsSeamless move order → IsOrderDecision move order Safe
  unsafe : (state : ℕ) (fault : EndFault) → ¬ IsSeamless move order → IsFirstFault move order state (fault_told fault) →
      IsOrderDecision move order (Unsafe state fault)

-- what is decided of a wave list, by the tables of the two protocols: it is safe where in every state after every prefix
-- of every interleaving of the changes within each wave each packet for an address with a target reaches an originator
-- from every router, along every equal-cost choice; else its first wave with an unsound state is told, from 1
pub data IsWavesDecision (move : Migration) (ranks : List ℕ) : Decision → Type 0 where
  safe_waves : AreSeamlessWaves move ranks → IsWavesDecision move ranks (SafeWaves (wave_count ranks))
  unsafe_wave : (wave : ℕ) (fault : EndFault) → ¬ AreSeamlessWaves move ranks →
      IsTimesFault move (router_times move.start ranks) wave (fault_told fault) → IsWavesDecision move ranks (UnsafeWave wave fault)

-- the order file has a faulty line; or it is of version 1, and its routers are switched one after the other; or it is of
-- version 2, and they are switched wave by wave
pub data IsCheckOver (move : Migration) (order : NamedText) : Decision → Type 0 where
  faulty_order : (number : ℕ) (kind : OrderKind) → IsLeastFaultyLine move.net order.text number kind →
      IsCheckOver move order (BadOrder order.file number kind)
  of_order : (ranks : List ℕ) (decision : Decision) → NamesWaves move.net order.text One ranks →
      IsOrderDecision move (flat_of ranks) decision → IsCheckOver move order decision
  of_waves : (ranks : List ℕ) (decision : Decision) → NamesWaves move.net order.text Two ranks →
      IsWavesDecision move ranks decision → IsCheckOver move order decision

-- by the tables of OSPF and of IS-IS, where a file whose first line is that of single changes is one of these, and every other file
-- one of routers
pub data IsCheckDecision (order : NamedText) (net : Network) : Decision → Type 0 where
  by_routers : (decision : Decision) → ¬ BeginsWith two_header order.text → IsCheckOver (ospf_to_isis net) order decision →
      IsCheckDecision order net decision
  by_changes : (decision : Decision) → BeginsWith two_header order.text → IsChangesCheck (ospf_to_isis net) order decision →
      IsCheckDecision order net decision
