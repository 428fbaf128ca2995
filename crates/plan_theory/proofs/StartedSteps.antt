-- Where a migration starts makes no difference to the steps of a phase.
use Rattle.std.proofs.Common.{ℕ}
use Rattle.net_addr.specs.Addresses.{Block}
use Rattle.igp_theory.specs.Forwarding.{Usable, Counts, connected_counts, old_counts, new_counts, Uses, Steps}
use Rattle.igp_theory.specs.Migrations.{Migration, started}
use Rattle.igp_theory.specs.Phases.{State}
use Rattle.igp_theory.specs.declared.phase.Phase.{Phase}

counts_started : (move : Migration) (start : State) {u : ℕ} {phase : Phase} {p : Block} {d : ℕ} {used : Usable} → Counts move u phase p d used →
    Counts (started start move) u phase p d used
counts_started move start (connected_counts connected) = connected_counts connected
counts_started move start (old_counts counts c has distance apart entry) = old_counts counts c has distance apart entry
counts_started move start (new_counts counts entry) = new_counts counts entry

uses_started : (move : Migration) (start : State) {u a : ℕ} {phase : Phase} {used : Usable} → Uses move u phase a used →
    Uses (started start move) u phase a used
uses_started move start uses = record {
  prefix = uses.prefix;
  distance = uses.distance;
  counts = counts_started move start uses.counts;
  contains = uses.contains;
  longest = λ q d other counts has. uses.longest q d other (counts_started (started start move) move.start counts) has;
  lowest = λ q d other counts has long. uses.lowest q d other (counts_started (started start move) move.start counts) has long;
}

pub steps_started : (move : Migration) (start : State) {u a h : ℕ} {phase : Phase} → Steps move u phase a h → Steps (started start move) u phase a h
steps_started move start steps = record { must = steps.must; used = steps.used; uses = uses_started move start steps.uses; leads = steps.leads }
