use Rattle.std.proofs.Common.{◌≡◌, ◌↔◌, ℕ, Option, Some, subst}
use Rattle.std.proofs.lemmas.Result.{on_ok_weaker}
use Rattle.walk_core.specs.declared.exits.Exit.{Exit}
use Rattle.walk_core.specs.steps.Exits.{IsNoFarther, LeadsOver, cost_over}
use Rattle.walk_core.proofs.ExitLaws.{two_added}
use Rattle.walk_core.proofs.exits.push_exits.Goals as goal

-- the end that is nearer by the costs over two exits
towards : (exit other : Exit) (v : ℕ) (cost rival end : Option ℕ) → cost ≡ cost_over exit v → rival ≡ cost_over other v →
    ((h : ℕ) → (end ≡ Some h) ↔ (IsNoFarther cost rival × (exit.to ≡ h))) → (h : ℕ) → (end ≡ Some h) ↔ LeadsOver exit other v h
towards exit other v cost rival end first second is h =
    subst (λ (r : Option ℕ). (end ≡ Some h) ↔ (IsNoFarther (cost_over exit v) r × (exit.to ≡ h))) second
    (subst (λ (r : Option ℕ). (end ≡ Some h) ↔ (IsNoFarther r rival × (exit.to ≡ h))) first (is h))

pub returns : goal.returns
returns c =
    on_ok_weaker c.push_two.result
    (two_added c.args.exits c.args.v c.no_farther_end.result c.no_farther_end-2.result c.args.hops.now c.push_two.new.hops c.if-v-exits.false
    (towards c.args.exits.one c.args.exits.other c.args.v c.cost_over-one.result c.cost_over-other.result c.no_farther_end.result
    c.cost_over-one.ensures c.cost_over-other.ensures c.no_farther_end.ensures)
    (towards c.args.exits.other c.args.exits.one c.args.v c.cost_over-other.result c.cost_over-one.result c.no_farther_end-2.result
    c.cost_over-other.ensures c.cost_over-one.ensures c.no_farther_end-2.ensures))
    c.push_two.ensures
