use Rattle.std.proofs.Common.{ap, sym, ◌∙◌}
use Rattle.std.specs.List.{list_any, slice_split}
use Rattle.net_addr.specs.Blanks.{is_blank}
use Rattle.ios_sections.proofs.TableFacts.{any-map}
use Rattle.text_survey.specs.ActingForms.{is_policy}
use Rattle.text_survey.proofs.WordFacts.{policy_pieces}
use Rattle.text_survey.proofs.acting.has_policy.Goals as goal

pub returns : goal.returns
returns c =
    c.any_policy.ensures
    ∙ ap (list_any (λ p. is_policy p.now)) c.as_slice.ensures.value
    ∙ any-map (λ p. p.now) is_policy c.in_ok-pieces.pieces.items
    ∙ ap (list_any is_policy) c.in_ok-pieces.ensures
    ∙ sym (policy_pieces (slice_split is_blank c.args.bytes.now))
