-- What a design says of areas and metrics is by their grammar.
use Rattle.std.proofs.lemmas.Grind.{common_steps}
use Rattle.std.proofs.Common.{◌≡◌, ℕ, Bool, true, false, ◌&&◌, cond, Option, Some, None, IsTrue, All, IfSome, codes, sym, subst, arith}
use Rattle.std.proofs.Common.{nat_le}
use Rattle.std.specs.Option.{unwrap_or, option_and_then}
use Rattle.std.proofs.lemmas.Bool.{and_parts}
use Rattle.std.proofs.lemmas.List.Elements.{All-cons, All-nil}
use Rattle.std.proofs.lemmas.Bool.Decides.{nat_tests}
use Rattle.toml.specs.Data.{Data, Members, no_members, member, get_member}
use Rattle.design_file.specs.Designs.{IsDesign, IsMetric, IsRouterSound, IsSoundDesign, interfaces_said, router_said, routers_said}
use Rattle.design_file.specs.Documents.{said_at, entries_at, entries_of}
use Rattle.ios_lines.specs.Words.{Word}
use Rattle.design_file.specs.Values.{as_area, is_area, as_metric}
use Rattle.design_file.specs.declared.design.Design.{Design}
use Rattle.design_file.specs.declared.design.DesignInterface.{DesignInterface}

area_by : (good : Bool) (word : Word) → is_area word ≡ good → IfSome (cond good (Some word) None) (λ area. IsTrue (is_area area))
area_by good word e = grind (arith, common_steps)

as_area-sound : (value : Data) → IfSome (as_area value) (λ area. IsTrue (is_area area))
as_area-sound value = grind (arith, common_steps, area_by)

metric_by : (good : Bool) (n : ℕ) → (nat_le 1 n && nat_le n 16777214) ≡ good → IfSome (cond good (Some n) None) IsMetric
metric_by true n e = let parts = and_parts (nat_le 1 n) (nat_le n 16777214) e in (grind (arith, nat_tests, parts), grind (arith, nat_tests, parts))
metric_by false n e = tt

as_metric-sound : (value : Data) → IfSome (as_metric value) IsMetric
as_metric-sound value = grind (arith, common_steps, metric_by)

area_said : (value : Option Data) → IfSome (option_and_then as_area value) (λ area. IsTrue (is_area area))
area_said value = grind (arith, common_steps, as_area-sound)

metric_said : (value : Option Data) → IfSome (option_and_then as_metric value) IsMetric
metric_said value = grind (arith, common_steps, as_metric-sound)

interfaces_sound : (members : Members) → All (λ (i : DesignInterface). IfSome i.metric IsMetric) (interfaces_said members)
interfaces_sound no_members = All-nil (λ (i : DesignInterface). IfSome i.metric IsMetric)
interfaces_sound (member name value more) =
    All-cons (λ (i : DesignInterface). IfSome i.metric IsMetric) _ (interfaces_said more)
    (metric_said (get_member (codes "metric") (entries_of (Some value)))) (interfaces_sound more)

router_sound : (name : Word) (entries : Members) → IsRouterSound (router_said name entries)
router_sound name entries = grind (arith, common_steps, area_said, interfaces_sound, metric_said)

routers_sound : (members : Members) → All IsRouterSound (routers_said members)
routers_sound no_members = All-nil IsRouterSound
routers_sound (member name value more) =
    All-cons IsRouterSound (router_said name (entries_of (Some value))) (routers_said more) (router_sound name (entries_of (Some value))) (routers_sound more)

metric_or : (said : Option ℕ) → IfSome said IsMetric → IsMetric (unwrap_or said 10)
metric_or said good = grind (arith, common_steps)

-- what a document says as a design is by its grammar
pub design_sound : (document : Members) (design : Design) → IsDesign document design → IsSoundDesign design
design_sound document design is = record {
  area = subst (λ (o : Option Word). IfSome o (λ area. IsTrue (is_area area))) is.area (area_said (get_member (codes "area") document));
  metric = subst IsMetric (sym is.metric) (metric_or (said_at as_metric (codes "metric") document) (metric_said (get_member (codes "metric") document)));
  routers = subst (All IsRouterSound) (sym is.routers) (routers_sound (entries_at (codes "routers") document));
}
