use Rattle.std.proofs.Common.{ℕ, List, nat_eq, sym, ap, subst, ◌∙◌}
use Rattle.std.specs.Cmp.{nat_eq_equiv}
use Rattle.std.proofs.lemmas.Bool.{eqb-true}
use Rattle.ios_reader.specs.Routers.{is_same_area}
use Rattle.ios_reader.specs.steps.Tables.{values_in, AreKeyed, stub_key}
use Rattle.ios_lines.specs.declared.ospf_line.StubLine.{StubLine}
use Rattle.ios_reader.proofs.KeyedFacts.{insert_values, insert_keyed}
use Rattle.ios_reader.proofs.areas.with_stub.Goals as goal

pub returns-clause-keyed : goal.returns-clause-keyed
returns-clause-keyed c =
    subst (λ (es : List (ℕ × StubLine)). AreKeyed stub_key es) (sym c.in_ok-insert.ensures.entries)
    (insert_keyed nat_eq stub_key eqb-true c.args.stubs.now.entries c.args.stub c.requires)

pub returns-clause-stubs : goal.returns-clause-stubs
returns-clause-stubs c =
    ap (λ (es : List (ℕ × StubLine)). values_in es) c.in_ok-insert.ensures.entries
    ∙ insert_values nat_eq stub_key is_same_area (λ x y. nat_eq_equiv.symm x.area y.area) c.args.stubs.now.entries c.args.stub c.requires
