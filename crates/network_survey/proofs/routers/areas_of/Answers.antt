use Rattle.std.proofs.Common.{ℕ, List, IsPermutation, subst, ap, ◌∙◌}
use Rattle.std.specs.List.{filter_map}
use Rattle.net_model.specs.Configuration.{Configuration}
use Rattle.net_model.specs.declared.interface.Interface.{Interface}
use Rattle.std.proofs.lemmas.List.Filters.{dedup_is}
use Rattle.network_survey.specs.steps.RouterLists.{area_if_up}
use Rattle.network_survey.proofs.RouterFacts.{ListsAreas-sorted}
use Rattle.network_survey.proofs.routers.areas_of.Goals as goal

pub returns : goal.returns
returns c =
    let is = dedup_is _ _ _ c.dedup.ensures.filtered in
    let moved : IsPermutation (filter_map area_if_up c.args.config.now.interfaces) c.sort_unstable.new.self.items =
    subst (λ (l : List ℕ). IsPermutation l c.sort_unstable.new.self.items)
    (c.in_ok-areas.ensures ∙ ap (λ (l : List Interface). filter_map area_if_up l) (c.as_slice.ensures ∙ ap (λ (d : Configuration). d.interfaces) c.config.view_is)) c.sort_unstable.ensures.permutation in
    ListsAreas-sorted c.args.config.now c.sort_unstable.new.self.items c.dedup.new.self.items moved c.sort_unstable.ensures.sorted is
