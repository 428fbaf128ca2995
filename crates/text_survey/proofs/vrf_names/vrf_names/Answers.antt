use Rattle.std.proofs.Common.{◌≡◌, ◌+◌, ◌∙◌, ◌||◌, false, List, true, ap, bytes_eq, drop, sym}
use Rattle.std.specs.List.{list_any}
use Rattle.std.proofs.lemmas.List.{drop_all, take_rest}
use Rattle.ios_sections.specs.TextLines.{TextLine, opens_section, section_lines}
use Rattle.text_survey.specs.ToldLines.{vrf_name, vrf_names}
use Rattle.text_survey.specs.declared.vrf_names.NameSet.{NameSet}
use Rattle.text_survey.proofs.NameFacts.{or_false, vrf_at, vrf_on}
use Rattle.text_survey.proofs.vrf_names.vrf_names.Goals.{then-opens_section+in_ok-add_vrf_name, else-opens_section}
use Rattle.text_survey.proofs.vrf_names.vrf_names.Goals as goal

pub loop-i-preserved : goal.loop-i-preserved
loop-i-preserved c =
    let lines = c.args.lines.now in
    let i = c.loop-i.i in
    let head = c.index-lines-i.result in
    elim c.if-opens_section.branch [
      | then-opens_section+in_ok-add_vrf_name w ↦
          let opens : opens_section c.index-lines-i.result ≡ true = sym c.opens_section.ensures ∙ w.if-opens_section.true in
          λ q.
          ap (λ (names : NameSet). list_any (bytes_eq q) names || list_any (bytes_eq q) (vrf_names (drop (i + 1) lines))) w.names-is
          ∙ vrf_at lines i head c.loop-i-test.true c.index-lines-i.is q (list_any (bytes_eq q) c.loop-i.names)
          (list_any (bytes_eq q) w.add_vrf_name.new.names) (list_any (bytes_eq q) (vrf_names lines)) opens (w.in_ok-add_vrf_name.ensures q
          ∙ ap (λ (after : List TextLine). list_any (bytes_eq q) c.loop-i.names
          || list_any (bytes_eq q) (vrf_name (record { head = head; body = section_lines after }))) (take_rest lines (i + 1)))
          (c.loop-i.invariant q)
      | else-opens_section w ↦
          let other : opens_section c.index-lines-i.result ≡ false = sym c.opens_section.ensures ∙ w.if-opens_section.false in
          λ q.
          ap (λ (names : NameSet). list_any (bytes_eq q) names || list_any (bytes_eq q) (vrf_names (drop (i + 1) lines))) w.names-is
          ∙ vrf_on lines i head c.loop-i-test.true c.index-lines-i.is q (list_any (bytes_eq q) c.loop-i.names)
          (list_any (bytes_eq q) (vrf_names lines)) other (c.loop-i.invariant q)
    ]

pub returns : goal.returns
returns c = λ q.
    sym (or_false (list_any (bytes_eq q) c.loop-i.names))
    ∙ ap (λ (rest : List TextLine). list_any (bytes_eq q) c.loop-i.names || list_any (bytes_eq q) (vrf_names rest))
    (sym (drop_all c.loop-i.i c.args.lines.now c.loop-i-test.false))
    ∙ c.loop-i.invariant q
