use Rattle.std.proofs.Common.{◌≡◌, ◌+◌, ◌++◌, ◌∷◌, [], List, sym, ap, subst, ◌∙◌, arith}
use Rattle.walk_core.specs.declared.segment.Port.{Port}
use Rattle.zone_graph.specs.steps.Runs.{AreSegmentsTo}
use Rattle.zone_graph.specs.declared.attachments.Attachment.{Attachment}
use Rattle.zone_graph.proofs.RunFacts.{IsRun, segment_alone, segment_pushed, stands_at}
use Rattle.zone_graph.proofs.segments.push_segment.Goals as goal

pub returns-in_ok-push : goal.returns-in_ok-push
returns-in_ok-push c =
    let all : List Attachment = c.args.attachments.now in
    let like : Attachment = c.index-attachments-place.result in
    let ports : List Port = c.in_ok-ports.ports.items in
    let segments : List (List Port) = c.args.segments.now.items in
    let pushed : c.push.new.self.items ≡ segments ++ ports ∷ [] =
    c.in_ok-push.ensures.items ∙ ap (λ (l : List Port). segments ++ l ∷ []) c.from_vec.ensures
    in
    let run : IsRun all c.args.place c.run_end-end.result like ports = record {
      sorted = c.requires.sorted;
      run = c.run_end-end.ensures;
      at = stands_at all c.args.place like c.requires.place c.index-attachments-place.is;
      ports_like = c.in_ok-ports.ensures;
    } in
    subst (λ (l : List (List Port)). AreSegmentsTo all (c.args.place + 1) l) (sym pushed)
    (segment_pushed all c.args.place c.run_end-end.result like ports segments run c.requires.before)

pub returns-else-len-gt1 : goal.returns-else-len-gt1
returns-else-len-gt1 c =
    let all : List Attachment = c.args.attachments.now in
    let like : Attachment = c.index-attachments-place.result in
    let ports : List Port = c.in_ok-ports.ports.items in
    let segments : List (List Port) = c.args.segments.now.items in
    let run : IsRun all c.args.place c.run_end-end.result like ports = record {
      sorted = c.requires.sorted;
      run = c.run_end-end.ensures;
      at = stands_at all c.args.place like c.requires.place c.index-attachments-place.is;
      ports_like = c.in_ok-ports.ensures;
    } in
    segment_alone all c.args.place c.run_end-end.result like ports segments run
    (omega (arith, c.if-len-gt1.false, c.len.ensures, c.in_ok-ports.ports.ok.0)) c.requires.before
