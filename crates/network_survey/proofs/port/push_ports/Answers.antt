use Rattle.std.proofs.Common.{rules, ◌≡◌, ◌+◌, ◌<◌, ◌≤◌, length, get_or, List, refl, ap, ◌∙◌, subst, sym}
use Rattle.network_survey.specs.Ports.{ListsUpPorts}
use Rattle.network_survey.specs.steps.PortLists.{IsPortTo}
use Rattle.net_model.specs.Configuration.{Configuration}
use Rattle.net_model.specs.declared.interface.Interface.{Interface}
use Rattle.std.proofs.lemmas.Option.{slice_get_read}
use Rattle.network_survey.proofs.PortFacts.{ListsUpPorts-more, ListsUpPorts-next}
use Rattle.network_survey.proofs.port.push_ports.Goals as goal

pub loop-place-preserved : goal.loop-place-preserved
loop-place-preserved c =
    let within : c.loop-place.place < length c.config.result.now.interfaces = search rules in
    let is : c.index-interfaces-place.result ≡ get_or c.config.result.now.interfaces c.loop-place.place c.index-interfaces-place.result =
    c.index-interfaces-place.is ∙ ap (λ (l : List Interface). get_or l c.loop-place.place c.index-interfaces-place.result) (c.as_slice-interfaces.ensures ∙ ap (λ (d : Configuration). d.interfaces) c.behind-net.view_is) in
    let at = slice_get_read c.config.result.now.interfaces (length c.config.result.now.interfaces) c.loop-place.place c.index-interfaces-place.result refl within is in
    subst (ListsUpPorts (IsPortTo c.args.net.now c.args.router (c.loop-place.place + 1))) (sym c.in_ok-push_port.ensures)
    (ListsUpPorts-more c.args.net.now c.args.router c.loop-place.place c.config.result.now c.index-interfaces-place.result c.config.ensures.router at
    c.loop-place.ports.items c.loop-place.invariant)

pub returns : goal.returns
returns c =
    let end : length c.config.result.now.interfaces ≤ c.loop-place.place = search rules in
    ListsUpPorts-next c.args.net.now c.args.router c.loop-place.place c.config.result.now c.config.ensures.router end
    c.loop-place.ports.items c.loop-place.invariant
