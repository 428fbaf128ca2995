use Rattle.std.proofs.Common.{ℕ, List, refl, subst, sym}
use Rattle.std.specs.List.Sorted.{IsStrictlyIncreasing}
use Rattle.prefix_atoms.specs.steps.Lists.{AreTargets}
use Rattle.prefix_atoms.proofs.ClassFacts.{classing_from, made_from, samples_ascend, samples_made, intervals_tell}
use Rattle.prefix_atoms.proofs.atoms.classes_of.Goals as goal

pub tops_of-requires : goal.tops_of-requires
tops_of-requires c =
    let made = made_from _ _ _ _ _ _ _ _ _ _ c.as_slice.ensures.value c.as_slice-2.ensures.value c.as_slice-3.ensures.value c.as_slice-4.ensures.value
    c.as_slice-5.ensures.value c.in_ok-starts.ensures.blocks c.in_ok-starts.ensures.cuts c.in_ok-numbers.ensures c.in_ok-samples.ensures in
    subst IsStrictlyIncreasing (sym c.as_slice-8.ensures.value) (samples_ascend made)

pub targets_of-requires : goal.targets_of-requires
targets_of-requires c =
    let made = made_from _ _ _ _ _ _ _ _ _ _ c.as_slice.ensures.value c.as_slice-2.ensures.value c.as_slice-3.ensures.value c.as_slice-4.ensures.value
    c.as_slice-5.ensures.value c.in_ok-starts.ensures.blocks c.in_ok-starts.ensures.cuts c.in_ok-numbers.ensures c.in_ok-samples.ensures in
    subst IsStrictlyIncreasing (sym c.as_slice-9.ensures.value) (samples_ascend made)

pub invariant_of-result : goal.invariant_of-result
invariant_of-result c =
    let made = made_from _ _ _ _ _ _ _ _ _ _ c.as_slice.ensures.value c.as_slice-2.ensures.value c.as_slice-3.ensures.value c.as_slice-4.ensures.value
    c.as_slice-5.ensures.value c.in_ok-starts.ensures.blocks c.in_ok-starts.ensures.cuts c.in_ok-numbers.ensures c.in_ok-samples.ensures in (
      classing_from _ _ _ _ _ c.as_slice-6.ensures.value c.as_slice-7.ensures.value c.as_slice-8.ensures.value c.as_slice-9.ensures.value
          (samples_made made) c.in_ok-parents.ensures c.in_ok-tops.ensures c.in_ok-targets.ensures.count,
      intervals_tell
          (record {
            prefixes = c.args.prefixes.items;
            parents = c.in_ok-parents.parents.items;
            samples = c.in_ok-samples.samples.items;
            tops = c.in_ok-tops.tops.items;
            targets = c.in_ok-targets.targets.items;
          })
          refl refl made,
    )

pub returns : goal.returns
returns c =
    let made = made_from _ _ _ _ _ _ _ _ _ _ c.as_slice.ensures.value c.as_slice-2.ensures.value c.as_slice-3.ensures.value c.as_slice-4.ensures.value
    c.as_slice-5.ensures.value c.in_ok-starts.ensures.blocks c.in_ok-starts.ensures.cuts c.in_ok-numbers.ensures c.in_ok-samples.ensures in
    record {
      prefixes_are = refl;
      classing = classing_from _ _ _ _ _ c.as_slice-6.ensures.value c.as_slice-7.ensures.value c.as_slice-8.ensures.value c.as_slice-9.ensures.value
          (samples_made made) c.in_ok-parents.ensures c.in_ok-tops.ensures c.in_ok-targets.ensures.count;
      targets = subst (λ (xs : List ℕ). AreTargets c.args.originated.now xs c.in_ok-targets.targets.items) c.as_slice-9.ensures.value c.in_ok-targets.ensures;
    }
