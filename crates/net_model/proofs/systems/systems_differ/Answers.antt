use Rattle.std.proofs.lemmas.Bool.{OnTrue_at, OnTrue_from}
use Rattle.std.proofs.Common.{List, IsPermutation, subst}
use Rattle.std.specs.List.Sorted.{IsStrictlyIncreasing}
use Rattle.net_model.specs.Conditions.{SystemsDiffer}
use Rattle.net_model.proofs.SystemClashes.{SystemsDiffer-sorted}
use Rattle.net_model.proofs.systems.systems_differ.Goals as goal

pub returns : goal.returns
returns c = OnTrue_from c.ascend.result (SystemsDiffer c.args.configs.now)
    (λ yes. SystemsDiffer-sorted c.args.configs.now c.sort_unstable.new.self.items
    (subst (λ (l : List _). IsPermutation l c.sort_unstable.new.self.items) c.in_ok-systems.ensures
    c.sort_unstable.ensures.permutation)
    (subst IsStrictlyIncreasing c.deref.ensures.value (OnTrue_at yes c.ascend.ensures)))
