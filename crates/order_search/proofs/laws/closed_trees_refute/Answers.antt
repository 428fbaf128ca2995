use Rattle.order_search.proofs.TreeRefutes.{closed_tree_refutes, refutation_refutes}
use Rattle.order_search.proofs.laws.closed_trees_refute.Goals as goal

pub returns-clause-closed : goal.returns-clause-closed
returns-clause-closed g c = λ oracle tree ranks closed.
    let m = g.Q.Oracle.meaning oracle in
    closed_tree_refutes m.good m.real m.base (g.met.Q.Oracle.decisive oracle) tree closed ranks

pub returns-clause-refuted : goal.returns-clause-refuted
returns-clause-refuted g c = λ oracle budget tree ranks found.
    refutation_refutes (g.Q.Oracle.meaning oracle) (g.met.Q.Oracle.decisive oracle) budget tree found ranks
