use Rattle.std.proofs.Common.{◌≡◌, take}
use Rattle.std.specs.List.{flat_map}
use Rattle.refused_texts.specs.Texts.{network_text}
use Rattle.survey_report.proofs.survey.refusals_text.Given as goal

abbrev pub invariant-loop-refusal : goal.invariant-loop-refusal
invariant-loop-refusal l = l.text.items ≡ flat_map network_text (take l.refusal-index l.found)
