-- The sorted configurations keep what the given ones do, and what refuses them refuses the given ones.
use Rattle.std.proofs.lemmas.Grind.{common_steps}
use Rattle.std.proofs.Common.{List, All, IsPermutation, subst, ◌∙◌, arith}
use Rattle.std.proofs.lemmas.List.Sorted.{All-permutation, length_permutation}
use Rattle.std.proofs.lemmas.Result.{err_from_is_err_and}
use Rattle.net_model.specs.Conditions.{IsConsistent}
use Rattle.net_model.specs.Configuration.{Configuration, IsConfiguration}
use Rattle.net_model.specs.Limits.{IsWithinLimits}
use Rattle.net_model.specs.Refusals.{NamesAscend, RefusesName}
use Rattle.net_model.specs.steps.Refused.{MayRefuse}
use Rattle.net_model.proofs.BuildFacts.{Refuses-by_name, Refuses-by_network}
use Rattle.net_model.proofs.Dests.{IsWithinLimits-permutation}
use Rattle.net_model.proofs.net.Net.build.Goals as goal

pub returns-in_err-check_names-clause-err : goal.returns-in_err-check_names-clause-err
returns-in_err-check_names-clause-err c =
    let sorted = c.sort_by_name.new.configs.items in
    let limits = subst IsWithinLimits (c.as_slice.ensures.value ∙ c.into_vec-configs.ensures) c.in_ok-within_limits.ensures.ok in
    let same = subst (λ (l : List Configuration). IsPermutation l sorted) c.into_vec-configs.ensures c.sort_by_name.ensures.same in
    let refusal = c.in_err-check_names.field-0.0 in
    let p = err_from_is_err_and c.from_residual-in_err-check_names.result c.from_residual-in_err-check_names.ensures.1 in
    rw (p.1, p.2) (Refuses-by_name c.args.configs sorted refusal limits same (subst (RefusesName refusal) c.as_slice-2.ensures.value
    c.in_err-check_names.ensures.err))

pub check_network-requires : goal.check_network-requires
check_network-requires c = grind (arith, common_steps, length_permutation)

pub returns-in_err-check_network-clause-err : goal.returns-in_err-check_network-clause-err
returns-in_err-check_network-clause-err c =
    let sorted = c.sort_by_name.new.configs.items in
    let limits = subst IsWithinLimits (c.as_slice.ensures.value ∙ c.into_vec-configs.ensures) c.in_ok-within_limits.ensures.ok in
    let same = subst (λ (l : List Configuration). IsPermutation l sorted) c.into_vec-configs.ensures c.sort_by_name.ensures.same in
    let up = subst NamesAscend c.as_slice-2.ensures.value c.in_ok-check_names.ensures.ok in
    let refusal = c.in_err-check_network.field-0.0 in
    let p = err_from_is_err_and c.from_residual-in_err-check_network.result c.from_residual-in_err-check_network.ensures.1 in
    rw (p.1, p.2) (Refuses-by_network c.args.configs sorted refusal limits (record { same = same; ascending = up })
    (subst (MayRefuse refusal) c.as_slice-3.ensures.value c.in_err-check_network.ensures.err))

pub invariant_of-result : goal.invariant_of-result
invariant_of-result c =
    let sorted = c.sort_by_name.new.configs.items in
    let given = c.as_slice.ensures.value ∙ c.into_vec-configs.ensures in
    let same = subst (λ (l : List Configuration). IsPermutation l sorted) c.into_vec-configs.ensures c.sort_by_name.ensures.same in
    record {
      limits = IsWithinLimits-permutation c.args.configs sorted same (subst IsWithinLimits given c.in_ok-within_limits.ensures.ok);
      ascending = subst NamesAscend c.as_slice-2.ensures.value c.in_ok-check_names.ensures.ok;
      configurations = All-permutation IsConfiguration c.args.configs sorted same (subst (All IsConfiguration) given c.in_ok-within_limits.ensures.each);
      consistent = subst IsConsistent c.as_slice-3.ensures.value c.in_ok-check_network.ensures.ok;
    }
