use Rattle.std.proofs.Common.{◌∙◌, refl, subst}
use Rattle.store_edge.specs.Sink.{AddsBytes, AddsFront}
use Rattle.migrate_cli.specs.Answers.Ends.{whole, cut, no_memory}
use Rattle.migrate_cli.proofs.AnswerFacts.{agree_may_fail, answer_has_text, answer_writes, may_have_asked}
use Rattle.migrate_cli.proofs.ClaimLaws.{claim, claim_written}
use Rattle.migrate_cli.proofs.run_call.run.Goals as goal

pub returns-in_default : goal.returns-in_default
returns-in_default g c =
    let h = c.in_default.ensures.answer in
    claim _ _ _ _ (record { asked = h.asked; asked_is = h.asked_is; ends = no_memory h.answers c.in_default.ensures.reads refl })
    (λ e. absurd (Prim.cc e)) (λ _. refl)

pub text-requires : goal.text-requires
text-requires g c = answer_has_text c.in-Ok.ensures.answer.answers

pub returns-in_default-text : goal.returns-in_default-text
returns-in_default-text g c =
    let h = c.in-Ok.ensures.answer in
    claim _ _ _ _ (record {
      asked = h.asked;
      asked_is = h.asked_is;
      ends = no_memory (may_have_asked h.answers) (agree_may_fail h.answers c.in-Ok.ensures.reads) refl;
    }) (λ e. absurd (Prim.cc e)) (λ _. refl)

pub returns-in-Ok-send : goal.returns-in-Ok-send
returns-in-Ok-send g c =
    let h = c.in-Ok.ensures.answer in
    let text_is = c.as_slice.ensures ∙ c.in-Ok-text.ensures in
    let adds = subst (AddsBytes (g.S.Sink.written c.args.out.now) (g.S.Sink.written c.send.new.out)) text_is c.in-Ok-send.ensures.ok in
    claim_written _ _ _ _ _ c.status-status.ensures
    (record { asked = h.asked; asked_is = h.asked_is; ends = whole c.in-Ok.outcome h.answers c.in-Ok.ensures.reads adds })
    (λ e. absurd (answer_writes h.answers e)) (λ _. c.in-Ok-send.ensures.unless_failed)

pub returns : goal.returns
returns g c =
    let h = c.in-Ok.ensures.answer in
    let text_is = c.as_slice.ensures ∙ c.in-Ok-text.ensures in
    let front = subst (AddsFront (g.S.Sink.written c.args.out.now) (g.S.Sink.written c.send.new.out)) text_is c.in-Err.ensures.cut in
    claim _ _ _ _ (record { asked = h.asked; asked_is = h.asked_is; ends = cut c.in-Ok.outcome h.answers c.in-Ok.ensures.reads front })
    (λ _. c.in-Err.ensures.failed) (λ not. absurd (not refl))
