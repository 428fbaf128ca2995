use Rattle.std.proofs.Common.{◌∙◌, ap, map}
use Rattle.std.proofs.lemmas.Result.{IfOk-weaker}
use Rattle.prefix_atoms.specs.steps.Longest.{top_of}
use Rattle.prefix_atoms.proofs.LongestSteps.{tops_kept}
use Rattle.prefix_atoms.proofs.atoms.tops_of.Goals as goal

pub returns : goal.returns
returns c =
    IfOk-weaker c.places_of.result _ _
    (λ v same. tops_kept c.args.prefixes.now c.args.addresses.now c.longest_in_prefixes.new.found.items v.items c.in_ok-longest_in_prefixes.ensures.longest
    (same ∙ ap (map top_of) c.as_slice.ensures.value))
    c.places_of.ensures
