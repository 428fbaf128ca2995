use Rattle.std.proofs.Common.{ℕ, subst}
use Rattle.std.proofs.lemmas.Option.{IfSome_then}
use Rattle.walk_core.specs.steps.Begun.{IsRowOver}
use Rattle.walk_core.proofs.BegunLaws.{begun_over}
use Rattle.walk_core.proofs.begun.row_back.Goals as goal

pub returns : goal.returns
returns c = IfSome_then c.in_ok-row.row c.in_ok-row.ensures (λ row over.
    begun_over c.args.graph.now c.args.root c.ports.result.now c.args.rows.now c.in-Some.back c.in-Some-row_at.far.now row.items (record {
      below = c.requires.root;
      few = c.count.ensures.few;
      joined = c.count.ensures.joined;
      listed = c.ports.ensures.ports;
      each = c.requires.rows;
      link = c.in-Some.ensures;
      row = c.in-Some-row_at.ensures;
    }) (subst (λ (n : ℕ). IsRowOver c.in-Some-row_at.far.now c.in-Some.back.cost n c.args.root row.items) c.count.ensures.value over))
