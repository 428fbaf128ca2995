use Rattle.std.proofs.Common.{[], ◌∷◌, length, ap, ◌∙◌}
use Rattle.std.proofs.lemmas.Result.{IfOk-weaker}
use Rattle.net_model.specs.Network.{Network}
use Rattle.printed_lines.specs.Texts.{text_of}
use Rattle.survey_report.specs.NetworkLines.{counts_line}
use Rattle.survey_report.proofs.kind_texts.counts_text.Goals as goal

pub returns : goal.returns
returns c =
    IfOk-weaker c.numbers_text.result _ _
    (λ text is. record {
      ports = c.ports-ports.result.now;
      listed = c.ports-ports.ensures;
      links = c.in_ok-links.links;
      links_are = c.in_ok-links.ensures c.args.read.now.net c.ports-ports.ensures;
      subnets = c.in_ok-subnets.subnets;
      subnets_are = c.in_ok-subnets.ensures c.args.read.now.net c.ports-ports.ensures;
      text_is = is
          ∙ ap (λ (n : Network). text_of (counts_line (length n) (length c.ports-ports.result.now) c.in_ok-links.links c.in_ok-subnets.subnets ∷ []))
          c.net.ensures;
    }) c.numbers_text.ensures
