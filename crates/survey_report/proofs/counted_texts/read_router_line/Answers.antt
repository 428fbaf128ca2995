use Rattle.std.proofs.Common.{◌≡◌, ℕ, List, [], ◌∷◌, ◌++◌, ap, ◌∙◌}
use Rattle.std.specs.Prelude.{codes, decimal, map}
use Rattle.std.proofs.lemmas.Result.{IfOk-weaker}
use Rattle.net_model.specs.Configuration.{Configuration}
use Rattle.net_model.specs.Limits.{up_interfaces}
use Rattle.network_survey.specs.Routers.{isis_interfaces, ospf_interfaces}
use Rattle.printed_lines.specs.Words.{spaced}
use Rattle.survey_report.proofs.WordFacts.{spaced_more}
use Rattle.survey_report.proofs.counted_texts.read_router_line.Goals as goal

pub returns : goal.returns
returns c =
    let w : List ℕ = codes "router" in
    let config : Configuration = c.args.config.now in
    let up : List (List ℕ) = codes "up" ∷ decimal (up_interfaces config) ∷ [] in
    let ospf : List (List ℕ) = codes "ospf" ∷ decimal (ospf_interfaces config) ∷ [] in
    let isis : List (List ℕ) = codes "isis" ∷ decimal (isis_interfaces config) ∷ [] in
    let a : List (List ℕ) = config.name ∷ [] in
    let b : List (List ℕ) = config.name ∷ up in
    let d : List (List ℕ) = config.name ∷ codes "up" ∷ decimal (up_interfaces config) ∷ ospf in
    let e : List (List ℕ) = config.name ∷ codes "up" ∷ decimal (up_interfaces config) ∷ codes "ospf" ∷ decimal (ospf_interfaces config) ∷ isis in
    let started : c.in_ok-start.start ≡ w ++ spaced a = c.in_ok-start.ensures ∙ ap (λ (n : List ℕ). w ++ spaced (n ∷ []))
    (c.as_slice.ensures ∙ ap (λ (x : Configuration). x.name) c.config.view_is) in
    let one : c.in_ok-up.up ≡ w ++ spaced b =
    spaced_more w c.in_ok-start.start c.in_ok-up.up a up started
    (c.in_ok-up.ensures ∙ ap (λ (n : ℕ). c.in_ok-start.start ++ spaced (codes "up" ∷ decimal n ∷ [])) c.up_interfaces.ensures) in
    let two : c.in_ok-ospf.ospf ≡ w ++ spaced d =
    spaced_more w c.in_ok-up.up c.in_ok-ospf.ospf b ospf one
    (c.in_ok-ospf.ensures ∙ ap (λ (n : ℕ). c.in_ok-up.up ++ spaced (codes "ospf" ∷ decimal n ∷ [])) c.ospf_interfaces.ensures) in
    let three : c.in_ok-isis.isis ≡ w ++ spaced e =
    spaced_more w c.in_ok-ospf.ospf c.in_ok-isis.isis d isis two
    (c.in_ok-isis.ensures ∙ ap (λ (n : ℕ). c.in_ok-ospf.ospf ++ spaced (codes "isis" ∷ decimal n ∷ [])) c.isis_interfaces.ensures) in
    IfOk-weaker c.with_areas.result _ _
    (λ longer is. spaced_more w c.in_ok-isis.isis longer e (codes "areas" ∷ map decimal c.args.areas.now) three is) c.with_areas.ensures
