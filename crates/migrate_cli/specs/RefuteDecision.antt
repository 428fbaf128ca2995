-- What `refute` decides of a tree file and a network that is at its start.
use Rattle.std.specs.Prelude.{ℕ, List}
use Rattle.net_model.specs.Refusals.{IsNetwork}
use Rattle.net_model.specs.Network.{Network}
use Rattle.igp_theory.specs.Migrations.{Migration, ospf_to_isis}
use Rattle.refutation_check.specs.TreeLines.{rest_tree_header, two_tree_header}
use Rattle.refutation_check.specs.Verdicts.{IsTextVerdict, RefutesWhereClosed}
use Rattle.refutation_check.specs.declared.verdict.Verdict.{Verdict}
use Rattle.migration_report.specs.declared.decision.Decision.{Decision}
use Rattle.migration_report.specs.declared.decision.Decision.TheVariants.{Tree}
use Rattle.migrate_cli.specs.ChangesDecision.{IsChangesTree}
use Rattle.migrate_cli.specs.FirstLines.{BeginsWith}
use Rattle.migrate_cli.specs.RestDecision.{IsRestTree}

-- what is decided of a tree file, by the tables of the two protocols: it is a closed tree, and then no wave list and no order
-- of the network is seamless; or each of its lines is right, but it has unvisited places; or its first wrong line is told, with
-- its lowest kind. The network keeps what every network keeps
pub data IsTreeDecision (move : Migration) (tree : List ℕ) : Decision → Type 0 where
  judged_tree : (verdict : Verdict) → IsNetwork move.net → IsTextVerdict move tree verdict → RefutesWhereClosed move verdict →
      IsTreeDecision move tree (Tree verdict)

-- the first line of a tree file is neither that of a tree of single changes nor that of one from a start
pub record HasOtherHeader (tree : List ℕ) : Type 0 where
  pub no_changes : ¬ BeginsWith two_tree_header tree
  pub no_start : ¬ BeginsWith rest_tree_header tree

-- by the tables of OSPF and of IS-IS, where a file whose first line is that of a tree of single changes is one of these, one whose
-- first line is that of a tree from a start is such a tree, and every other file one of routers
pub data IsRefuteDecision (tree : List ℕ) (net : Network) : Decision → Type 0 where
  by_routers : (decision : Decision) → HasOtherHeader tree → IsTreeDecision (ospf_to_isis net) tree decision →
      IsRefuteDecision tree net decision
  by_changes : (decision : Decision) → BeginsWith two_tree_header tree → IsChangesTree (ospf_to_isis net) tree decision →
      IsRefuteDecision tree net decision
  by_rest : (decision : Decision) → BeginsWith rest_tree_header tree → IsRestTree (ospf_to_isis net) tree decision →
      IsRefuteDecision tree net decision
