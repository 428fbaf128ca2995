use Rattle.std.proofs.Common.{[], append-nil, subst, sym, ◌≡◌}
use Rattle.order_core.specs.Rankings.{rank_of}
use Rattle.explained_texts.specs.ReasonTexts.{of_first_wave}
use Rattle.explained_texts.specs.AskedLists.{AskedList}
use Rattle.explained_texts.proofs.earlier.EarlierList.with_told.Goals as goal

pub returns-then-self-router-eq0-clause-told : goal.returns-then-self-router-eq0-clause-told
returns-then-self-router-eq0-clause-told g c = record {
  more = [];
  told = of_first_wave (subst (λ (list : AskedList g.row.O.Denot g.row.N.Denot). rank_of list.ranks c.args.router ≡ 0) c.self.view_is
      c.if-self-router-eq0.true);
  longer_is = sym (append-nil c.args.text);
}
