use Rattle.std.proofs.Common.{◌≡◌, sym, ap, subst, ◌∙◌, arith}
use Rattle.std.proofs.lemmas.Iterator.Adapters.{YieldsList-from_vec}
use Rattle.std.proofs.lemmas.Iterator.Consumers.{YieldsList-end}
use Rattle.std.proofs.lemmas.List.{map-id}
use Rattle.std.proofs.lemmas.Result.{IfOk-weaker}
use Rattle.route_core.specs.Rows.{KeptTable, listed}
use Rattle.route_core.specs.Tables.{HasDistinctPrefixes}
use Rattle.route_core.proofs.RowLaws.{own_parts_listed, own_parts_table}
use Rattle.route_core.proofs.table.Table.from_entries.Goals as goal

pub of_kinds-requires : goal.of_kinds-requires
of_kinds-requires c =
    let end = c.loop-dest in
    let own : KeptTable = record { prefixes = end.prefixes.items; kinds = end.kinds.items; numbers = end.numbers.items; entries = end.own.items } in
    let gives = c.into_iter-dest-iterator.ensures.into_iter_gives in
    let run = YieldsList-end (YieldsList-from_vec c.into_vec-all.result.items gives.0 (omega (arith, gives.1, c.into_vec-all.result.ok))) end.yielded
    end.dest-iterator end.yielded_by c.next.result c.next.new.self c.in-None.is c.next.ensures.steps in
    let all : end.yielded ≡ c.args.entries = sym (map-id end.yielded) ∙ run.0 ∙ c.into_vec-all.ensures in
    rw (c.in_ok-prefixes-2.ensures.ok, c.in_ok-kinds-2.ensures.ok, c.in_ok-new.ensures.ok)
    (own_parts_table own end.yielded end.invariant (subst HasDistinctPrefixes (sym all) c.requires))

pub returns-clause-entries : goal.returns-clause-entries
returns-clause-entries c =
    let end = c.loop-dest in
    let own : KeptTable = record { prefixes = end.prefixes.items; kinds = end.kinds.items; numbers = end.numbers.items; entries = end.own.items } in
    let gives = c.into_iter-dest-iterator.ensures.into_iter_gives in
    let run = YieldsList-end (YieldsList-from_vec c.into_vec-all.result.items gives.0 (omega (arith, gives.1, c.into_vec-all.result.ok))) end.yielded
    end.dest-iterator end.yielded_by c.next.result c.next.new.self c.in-None.is c.next.ensures.steps in
    let is : listed own ≡ c.args.entries = own_parts_listed own end.yielded end.invariant ∙ sym (map-id end.yielded) ∙ run.0 ∙ c.into_vec-all.ensures in
    let made = rw (c.in_ok-prefixes-2.ensures.ok, c.in_ok-kinds-2.ensures.ok, c.in_ok-new.ensures.ok) at c.of_kinds.ensures in
    IfOk-weaker c.of_kinds.result (λ (t : KeptTable). t ≡ own) (λ (t : KeptTable). listed t ≡ c.args.entries) (λ t same. ap listed same ∙ is) made
