use Rattle.std.proofs.Common.{length, refl}
use Rattle.rib_mix.specs.steps.Features.{HaveSameFeatures}
use Rattle.rib_mix.proofs.SortSteps.{sort_taken}
use Rattle.rib_mix.proofs.sorts.Sorts.add.Goals as goal

pub returns : goal.returns
returns c =
    sort_taken (HaveSameFeatures c.args.features.now) c.args.parents.now
    (length c.args.self.now.of_places.items) c.next_sort.new.self
    (record { of_places = c.push.new.self; firsts = c.next_sort.new.self.firsts; parents = c.next_sort.new.self.parents }) c.in_ok-sort.sort
    c.requires.next c.requires.parents c.in_ok-sort.ensures.sorts c.in_ok-sort.ensures.is c.in_ok-push.ensures.items refl refl
