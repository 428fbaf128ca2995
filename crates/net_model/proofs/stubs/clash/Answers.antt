use Rattle.std.proofs.Common.{List, Any, ap, sym, subst, ◌∙◌}
use Rattle.net_model.specs.Configuration.{Configuration}
use Rattle.net_model.specs.Network.{RunsArea}
use Rattle.net_model.specs.steps.Scans.{OneHasStub}
use Rattle.net_model.specs.declared.area.Stub.{Stub}
use Rattle.net_model.specs.declared.interface.Interface.{Interface}
use Rattle.net_model.proofs.stubs.clash.Goals as goal

pub returns-then-one_has_stub : goal.returns-then-one_has_stub
returns-then-one_has_stub c =
    let a = c.args.area in
    let ones = c.as_slice.ensures ∙ ap (λ (x : Configuration). x.stubs) c.one.view_is in
    let twos = c.as_slice-2.ensures ∙ ap (λ (x : Configuration). x.stubs) c.two.view_is in
    let fars = c.as_slice-then-one_has_stub.ensures ∙ ap (λ (x : Configuration). x.interfaces) c.two.view_is in
    let differ = subst (λ (l : List Stub). OneHasStub a l c.args.two.now.stubs) ones
    (subst (λ (l : List Stub). OneHasStub a c.as_slice.result.now l) twos (c.one_has_stub.ensures.0 c.if-one_has_stub.true)) in (
      λ t. record { other_runs = subst (λ (l : List Interface). Any (RunsArea a) l) fars (c.has_area.ensures.0 t); differ = differ },
      λ h. c.has_area.ensures.1 (subst (λ (l : List Interface). Any (RunsArea a) l) (sym fars) h.other_runs),
    )
