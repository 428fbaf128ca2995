use Rattle.std.proofs.Common.{◌≡◌, ◌+◌, ◌++◌, ◌∙◌, List, false, true, ap, drop, sym}
use Rattle.std.specs.Prelude.{flat_map}
use Rattle.std.proofs.lemmas.List.{take_rest}
use Rattle.ios_sections.specs.TextLines.{TextLine, opens_section, section_lines, sections_of}
use Rattle.text_survey.specs.steps.Shown.{shown_section}
use Rattle.text_survey.proofs.ToldFacts.{section_more, section_passed}
use Rattle.text_survey.proofs.shown_sections.add_sections.Goals.{then-opens_section+in_ok-add_section, else-opens_section}
use Rattle.text_survey.proofs.shown_sections.add_sections.Goals as goal

pub loop-i-preserved : goal.loop-i-preserved
loop-i-preserved c =
    let lines = c.args.lines.now in
    let i = c.loop-i.i in
    let head = c.index-lines-i.result in
    let all = c.args.shown.now.items ++ flat_map shown_section (sections_of lines) in
    elim c.if-opens_section.branch [
      | then-opens_section+in_ok-add_section w ↦
          let opens : opens_section c.index-lines-i.result ≡ true = sym c.opens_section.ensures ∙ w.if-opens_section.true in
          ap (λ t. t.items ++ flat_map shown_section (sections_of (drop (i + 1) lines))) w.shown-is
          ∙ section_more lines i head c.loop-i-test.true c.index-lines-i.is shown_section c.loop-i.shown.items w.add_section.new.told.items all opens
          (w.in_ok-add_section.ensures
          ∙ ap (λ (after : List TextLine). c.loop-i.shown.items ++ shown_section (record { head = head; body = section_lines after }))
          (take_rest lines (i + 1)))
          c.loop-i.invariant
      | else-opens_section w ↦
          let other : opens_section c.index-lines-i.result ≡ false = sym c.opens_section.ensures ∙ w.if-opens_section.false in
          ap (λ t. t.items ++ flat_map shown_section (sections_of (drop (i + 1) lines))) w.shown-is
          ∙ section_passed lines i head c.loop-i-test.true c.index-lines-i.is shown_section c.loop-i.shown.items all other c.loop-i.invariant
    ]
