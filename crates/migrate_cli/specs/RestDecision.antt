-- What is decided of a tree file from a start, which tells of what is left of a migration that was stopped.
use Rattle.std.specs.Prelude.{ℕ, List}
use Rattle.net_model.specs.Refusals.{IsNetwork}
use Rattle.igp_theory.specs.Migrations.{Migration}
use Rattle.refutation_check.specs.RestVerdicts.{IsRestVerdict, LeavesNoRestWhereClosed}
use Rattle.refutation_check.specs.declared.verdict.Verdict.{Verdict}
use Rattle.migration_report.specs.declared.decision.Decision.{Decision}
use Rattle.migration_report.specs.declared.decision.Decision.TheVariants.{Tree}

-- it is a closed tree, and then no list of the changes that are left at its start, each router's first before its second and its two
-- next to each other where both are left, has only sound states, whatever that start is; or each of its lines is right, but it has
-- unvisited places; or its first wrong line is told, with its lowest kind. The network keeps what every network keeps
pub data IsRestTree (move : Migration) (tree : List ℕ) : Decision → Type 0 where
  judged_rest : (verdict : Verdict) → IsNetwork move.net → IsRestVerdict move tree verdict → LeavesNoRestWhereClosed move tree verdict →
      IsRestTree move tree (Tree verdict)
