use Rattle.std.proofs.Common.{◌≡◌, ◌≢◌, List, [], length, IsPermutation, IfErr, OnOk, ap, sym, subst, ◌∙◌, arith}
use Rattle.std.proofs.lemmas.Bool.{false≢true}
use Rattle.std.proofs.lemmas.List.Sorted.{IsPermutation-trans, length_permutation}
use Rattle.net_model.specs.Configuration.{Configuration}
use Rattle.net_model.specs.Limits.{IsWithinLimits}
use Rattle.net_model.specs.Refusals.{MakeNetwork, NamesAscend, RefusesName, Stands}
use Rattle.network_survey.specs.AllRefusals.{StandsFor}
use Rattle.network_survey.specs.steps.Kept.{ListsAbove}
use Rattle.network_survey.proofs.SurveyedFacts.{KeepsRefusal-none, ListsAbove-names, ListsRefusals-early, ListsRefusals-network}
use Rattle.network_survey.proofs.refusals.network_or_refusals.Goals as goal

pub returns-then-not-are_none : goal.returns-then-not-are_none
returns-then-not-are_none c =
    let sorted : List Configuration = c.sort_by_name.new.configs.items in
    let given : c.as_slice.result.now ≡ c.args.configs = c.as_slice.ensures.value ∙ c.into_vec-configs.ensures in
    let same : IsPermutation c.args.configs sorted = subst (λ (l : List Configuration). IsPermutation l sorted) c.into_vec-configs.ensures c.sort_by_name.ensures.same in
    let ok = subst (λ (l : List Configuration). OnOk c.check_names.result (NamesAscend l)) c.as_slice-2.ensures.value c.check_names.ensures.ok in
    let err = subst (λ (l : List Configuration). IfErr c.check_names.result (λ e. RefusesName e l)) c.as_slice-2.ensures.value c.check_names.ensures.err in
    let limits = subst (λ (l : List Configuration). ListsAbove (λ r. StandsFor r l) 3 c.in_ok-found.found.items) given c.in_ok-found.ensures.all in
    let names = ListsAbove-names c.args.configs sorted c.check_names.result c.in_ok-found.found.items c.keep.new.found.items same ok err limits c.in_ok-keep.ensures in
    let some : c.keep.new.found.items ≢ [] = λ e. false≢true (sym c.if-not-are_none.true ∙ c.are_none.ensures.1 (c.as_slice-3.ensures.value ∙ e)) in
    (ListsRefusals-early c.args.configs c.keep.new.found.items names some, some)

pub network_refusals-requires : goal.network_refusals-requires
network_refusals-requires c =
    let sorted : List Configuration = c.sort_by_name.new.configs.items in
    let given : c.as_slice.result.now ≡ c.args.configs = c.as_slice.ensures.value ∙ c.into_vec-configs.ensures in
    let same : IsPermutation c.args.configs sorted = subst (λ (l : List Configuration). IsPermutation l sorted) c.into_vec-configs.ensures c.sort_by_name.ensures.same in
    let ok = subst (λ (l : List Configuration). OnOk c.check_names.result (NamesAscend l)) c.as_slice-2.ensures.value c.check_names.ensures.ok in
    let none : c.keep.new.found.items ≡ [] = sym c.as_slice-3.ensures.value ∙ c.are_none.ensures.0 c.if-not-are_none.false in
    let kept = KeepsRefusal-none c.check_names.result c.in_ok-found.found.items c.keep.new.found.items (NamesAscend sorted) c.in_ok-keep.ensures none ok in
    let limits = subst IsWithinLimits given (c.in_ok-found.ensures.within kept.0) in
    omega (arith, ap (λ (l : List Configuration). length l) c.as_slice-4.ensures.value, length_permutation c.args.configs sorted same, limits.routers)

pub returns-then-not-are_none-2 : goal.returns-then-not-are_none-2
returns-then-not-are_none-2 c =
    let sorted : List Configuration = c.sort_by_name.new.configs.items in
    let given : c.as_slice.result.now ≡ c.args.configs = c.as_slice.ensures.value ∙ c.into_vec-configs.ensures in
    let same : IsPermutation c.args.configs sorted = subst (λ (l : List Configuration). IsPermutation l sorted) c.into_vec-configs.ensures c.sort_by_name.ensures.same in
    let ok = subst (λ (l : List Configuration). OnOk c.check_names.result (NamesAscend l)) c.as_slice-2.ensures.value c.check_names.ensures.ok in
    let none : c.keep.new.found.items ≡ [] = sym c.as_slice-3.ensures.value ∙ c.are_none.ensures.0 c.if-not-are_none.false in
    let kept = KeepsRefusal-none c.check_names.result c.in_ok-found.found.items c.keep.new.found.items (NamesAscend sorted) c.in_ok-keep.ensures none ok in
    let limits = subst IsWithinLimits given (c.in_ok-found.ensures.within kept.0) in
    let found = subst (λ (l : List Configuration). ListsAbove (λ r. Stands r l) 11 c.in_ok-found-2.found.items) c.as_slice-4.ensures.value c.in_ok-found-2.ensures in
    let some : c.in_ok-found-2.found.items ≢ [] = λ e. false≢true (sym c.if-not-are_none-2.true ∙ c.are_none-2.ensures.1 (c.as_slice-5.ensures.value ∙ e)) in
    (ListsRefusals-network c.args.configs sorted limits (record { same = same; ascending = kept.1 }) c.in_ok-found-2.found.items found, some)

pub returns-in-Ok : goal.returns-in-Ok
returns-in-Ok c =
    let sorted : List Configuration = c.sort_by_name.new.configs.items in
    let given : c.as_slice.result.now ≡ c.args.configs = c.as_slice.ensures.value ∙ c.into_vec-configs.ensures in
    let same : IsPermutation c.args.configs sorted = subst (λ (l : List Configuration). IsPermutation l sorted) c.into_vec-configs.ensures c.sort_by_name.ensures.same in
    let ok = subst (λ (l : List Configuration). OnOk c.check_names.result (NamesAscend l)) c.as_slice-2.ensures.value c.check_names.ensures.ok in
    let none : c.keep.new.found.items ≡ [] = sym c.as_slice-3.ensures.value ∙ c.are_none.ensures.0 c.if-not-are_none.false in
    let kept = KeepsRefusal-none c.check_names.result c.in_ok-found.found.items c.keep.new.found.items (NamesAscend sorted) c.in_ok-keep.ensures none ok in
    let limits = subst IsWithinLimits given (c.in_ok-found.ensures.within kept.0) in
    let made = subst (λ (l : List Configuration). MakeNetwork l c.in-Ok.net) c.from_vec.ensures c.in-Ok.ensures.ok in
    record {
      limits = limits;
      network = record { same = IsPermutation-trans c.args.configs sorted c.in-Ok.net same made.network.same; ascending = made.network.ascending };
      consistent = made.consistent;
    }
