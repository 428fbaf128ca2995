use Rattle.std.proofs.Common.{List, map, ap₂, ◌∙◌}
use Rattle.std.proofs.lemmas.Result.{IfOk-weaker}
use Rattle.net_model.specs.Network.{Network}
use Rattle.net_model.specs.RouterNames.{names_of}
use Rattle.network_survey.specs.Ports.{Port}
use Rattle.printed_lines.specs.Texts.{text_of}
use Rattle.survey_report.specs.NetworkLines.{half_line}
use Rattle.survey_report.proofs.kind_texts.half_text.Goals as goal

pub returns : goal.returns
returns c =
    IfOk-weaker c.half_lines.result _ _
    (λ text is. record {
      items = c.in_ok-found.found.items;
      listed = c.in_ok-found.ensures c.args.read.now.net c.ports.ensures;
      text_is = is
          ∙ ap₂ (λ (n : Network) (xs : List Port). text_of (map (half_line (names_of n)) xs)) c.net.ensures c.as_slice.ensures.value;
    }) c.half_lines.ensures
