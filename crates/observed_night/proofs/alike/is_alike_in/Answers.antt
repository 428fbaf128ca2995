use Rattle.std.proofs.Common.{◌≡◌, ◌∙◌, ◌↔◌, true, ap, subst, sym}
use Rattle.net_model.specs.Configuration.{Configuration}
use Rattle.observed_night.specs.Parts.{AreAlikeIn}
use Rattle.observed_night.specs.declared.part.Part.{Part}
use Rattle.observed_night.proofs.PartFacts.{same_lists_decide}
use Rattle.observed_night.proofs.alike.is_alike_in.Goals as goal

pub returns-in-Interfaces : goal.returns-in-Interfaces
returns-in-Interfaces c =
    subst (λ (part : Part). (c.have_same_items.result ≡ true) ↔ AreAlikeIn part c.args.one.now c.args.other.now) (sym c.in-Interfaces.is)
    (same_lists_decide c.have_same_items.result _ _ c.args.one.now.interfaces c.args.other.now.interfaces
    (c.as_slice.ensures ∙ ap (λ (x : Configuration). x.interfaces) c.one.view_is)
    (c.as_slice-in-Interfaces.ensures ∙ ap (λ (x : Configuration). x.interfaces) c.other.view_is) c.have_same_items.ensures)

pub returns-in-Ranges : goal.returns-in-Ranges
returns-in-Ranges c =
    subst (λ (part : Part). (c.have_same_items-in-Ranges.result ≡ true) ↔ AreAlikeIn part c.args.one.now c.args.other.now) (sym c.in-Ranges.is)
    (same_lists_decide c.have_same_items-in-Ranges.result _ _ c.args.one.now.ranges c.args.other.now.ranges
    (c.as_slice-in-Ranges.ensures ∙ ap (λ (x : Configuration). x.ranges) c.one.view_is)
    (c.as_slice-in-Ranges-2.ensures ∙ ap (λ (x : Configuration). x.ranges) c.other.view_is) c.have_same_items-in-Ranges.ensures)

pub returns-in-Stubs : goal.returns-in-Stubs
returns-in-Stubs c =
    subst (λ (part : Part). (c.have_same_items-in-Stubs.result ≡ true) ↔ AreAlikeIn part c.args.one.now c.args.other.now) (sym c.in-Stubs.is)
    (same_lists_decide c.have_same_items-in-Stubs.result _ _ c.args.one.now.stubs c.args.other.now.stubs
    (c.as_slice-in-Stubs.ensures ∙ ap (λ (x : Configuration). x.stubs) c.one.view_is)
    (c.as_slice-in-Stubs-2.ensures ∙ ap (λ (x : Configuration). x.stubs) c.other.view_is) c.have_same_items-in-Stubs.ensures)
