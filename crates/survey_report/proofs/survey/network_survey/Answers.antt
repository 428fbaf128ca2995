use Rattle.std.proofs.Common.{◌++◌, ◌||◌, length, ap, subst, ◌∙◌}
use Rattle.std.specs.Prelude.{nat_lt}
use Rattle.std.proofs.lemmas.Result.{IfOk-weaker}
use Rattle.survey_report.specs.KindTexts.{AreKindTexts, NetworkRead}
use Rattle.survey_report.specs.SurveyTexts.{SurveyText, last_kinds, odd_kinds, read_kinds, uneven_kinds}
use Rattle.survey_report.proofs.survey.network_survey.Goals as goal

pub returns : goal.returns
returns c =
    IfOk-weaker c.put_together.result _ _
    (λ survey is. record {
      network = c.in_ok-network.network;
      is_network = subst (λ (on : NetworkRead). AreKindTexts on read_kinds c.in_ok-network.network) c.in_ok-read.ensures c.in_ok-network.ensures;
      odd = c.in_ok-odd.odd;
      is_odd = subst (λ (on : NetworkRead). AreKindTexts on odd_kinds c.in_ok-odd.odd) c.in_ok-read.ensures c.in_ok-odd.ensures;
      uneven = c.in_ok-uneven.uneven;
      is_uneven = subst (λ (on : NetworkRead). AreKindTexts on uneven_kinds c.in_ok-uneven.uneven) c.in_ok-read.ensures c.in_ok-uneven.ensures;
      last = c.in_ok-last.last;
      is_last = subst (λ (on : NetworkRead). AreKindTexts on last_kinds c.in_ok-last.last) c.in_ok-read.ensures c.in_ok-last.ensures;
      text_is = ap (λ (s : SurveyText). s.text) is
          ∙ (λ i. c.in_ok-network.network ++ c.as_slice.ensures i ++ c.as_slice-2.ensures i ++ c.as_slice-3.ensures i);
      stands_out_is = ap (λ (s : SurveyText). s.stands_out) is
          ∙ (λ i. nat_lt 0 (length (c.as_slice.ensures i)) || nat_lt 0 (length (c.as_slice-3.ensures i)));
    }) c.put_together.ensures
