use Rattle.std.proofs.Common.{ℕ, List, [], ◌∷◌, codes, decimal}
use Rattle.std.proofs.lemmas.Result.{IfOk-weaker}
use Rattle.survey_report.proofs.WordFacts.{spaced_more, spaced_none}
use Rattle.survey_report.proofs.counted_texts.counts_line.Goals as goal

pub returns : goal.returns
returns c =
    let w : List ℕ = codes "survey" in
    let a : List (List ℕ) = decimal c.args.routers ∷ codes "routers" ∷ [] in
    let b : List (List ℕ) = decimal c.args.routers ∷ codes "routers" ∷ decimal c.args.interfaces ∷ codes "interfaces" ∷ [] in
    let d : List (List ℕ) =
    decimal c.args.routers ∷ codes "routers" ∷ decimal c.args.interfaces ∷ codes "interfaces" ∷ decimal c.args.links ∷ codes "links" ∷ [] in
    let told = spaced_more w c.in_ok-start.start c.in_ok-told.told [] a (spaced_none w c.in_ok-start.start c.in_ok-start.ensures) c.in_ok-told.ensures in
    let ports = spaced_more w c.in_ok-told.told c.in_ok-ports.ports a (decimal c.args.interfaces ∷ codes "interfaces" ∷ []) told c.in_ok-ports.ensures in
    let shared = spaced_more w c.in_ok-ports.ports c.in_ok-shared.shared b (decimal c.args.links ∷ codes "links" ∷ []) ports c.in_ok-shared.ensures in
    IfOk-weaker c.with_count-4.result _ _
    (λ longer is. spaced_more w c.in_ok-shared.shared longer d (decimal c.args.prefixes ∷ codes "prefixes" ∷ []) shared is) c.with_count-4.ensures
