use Rattle.std.proofs.Common.{◌≡◌, ◌<◌, ℕ, Bool, List, [], ◌∷◌, ◌++◌, Some, Vec, Global, length, take, get_or, cond, sym, ap, subst, ◌∙◌}
use Rattle.std.proofs.lemmas.List.{get_or_default, take_more}
use Rattle.ios_lines.specs.FaultOrder.{fault_at}
use Rattle.ios_lines.specs.declared.fault.Fault.{Fault}
use Rattle.ios_lines.specs.declared.kind.ReadKind.TheVariants.{NoHostname}
use Rattle.ios_reader.specs.steps.ToldFaults.{is_further, AreToldUpTo}
use Rattle.ios_reader.proofs.FaultyLineFacts.{told_next, up_to}
use Rattle.ios_reader.proofs.faulty_lines.firsts_on_lines.Goals.{then-is_further+in_ok-push, else-is_further}
use Rattle.ios_reader.proofs.faulty_lines.firsts_on_lines.Goals as goal

pub loop-fault-preserved : goal.loop-fault-preserved
loop-fault-preserved c =
    let sorted : List Fault = c.args.sorted.now in
    let i : ℕ = c.loop-fault.fault-index in
    let x : Fault = get_or sorted i (fault_at 0 NoHostname) in
    let told : List Fault = c.loop-fault.told.items in
    let within : i < length sorted = c.loop-fault-test.true in
    let after : c.if-is_further.told.items ≡ cond (is_further c.loop-fault.before x) (told ++ x ∷ []) told =
    elim c.if-is_further.branch [
      | then-is_further+in_ok-push w ↦
          ap (λ (v : Vec Fault Global). v.items) w.told-is ∙ w.in_ok-push.ensures.items
          ∙ sym (ap (λ (b : Bool). cond b (told ++ x ∷ []) told) (sym c.is_further.ensures ∙ w.if-is_further.true))
      | else-is_further w ↦
          ap (λ (v : Vec Fault Global). v.items) w.told-is
          ∙ sym (ap (λ (b : Bool). cond b (told ++ x ∷ []) told) (sym c.is_further.ensures ∙ w.if-is_further.false))
    ] in
    subst (λ (fs : List Fault). AreToldUpTo fs (Some x) c.if-is_further.told.items) (sym (take_more sorted i (fault_at 0 NoHostname) within))
    (told_next (take i sorted) c.loop-fault.before x told c.if-is_further.told.items c.loop-fault.invariant
    (up_to sorted i x c.requires within (get_or_default sorted i (fault_at 0 NoHostname) x within)) after)
