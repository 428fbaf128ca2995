use Rattle.std.proofs.Common.{◌≡◌, ℕ, ◌+◌, [], ◌∷◌, Some, ap, get_or, subst, sym, ◌∙◌}
use Rattle.walk_core.specs.Reach.{Reach, distance_of, listed_hops_of}
use Rattle.walk_core.specs.Stretches.{IsOnlyHop}
use Rattle.walk_core.specs.declared.stretch.OnlyHop.TheVariants.{One}
use Rattle.walk_core.proofs.StretchLaws.{distance_along, hops_along}
use Rattle.route_tables.specs.Routings.{IsEntryTo}
use Rattle.route_tables.specs.steps.Sharing.{HasNumber}
use Rattle.route_tables.proofs.LeadLaws.{lead_with, number_as, only_number}
use Rattle.route_tables.proofs.leads.lead_on.Goals.{in-One+in_ok-number-in-One, in_default-only_hop+in_ok-number_over-in_default-only_hop+in_ok-number-in_default-only_hop}
use Rattle.route_tables.proofs.leads.lead_on.Goals as goal

pub returns-clause-lead : goal.returns-clause-lead
returns-clause-lead c =
    let reach : Reach = c.args.walked.now.walks.now in
    let n : ℕ = c.args.walked.now.count in
    let at : ℕ = c.args.walked.now.stretch.first + c.args.step in
    let far : distance_of reach at ≡ Some c.in-Some.distance = ap (λ (r : Reach). distance_of r at) (sym c.requires.along)
    ∙ distance_along c.args.walked.now.stretch c.args.step ∙ sym c.distance.ensures ∙ c.in-Some.is in
    lead_with reach n c.match-only_hop.pool.entries.items at c.in-Some.distance c.match-only_hop.number far (elim c.match-only_hop.branch [
      | in-One+in_ok-number-in-One w ↦
          let one : IsOnlyHop (get_or c.args.walked.now.stretch.hops c.args.step []) (One w.in-One.hop) =
          subst (IsOnlyHop (get_or c.args.walked.now.stretch.hops c.args.step [])) w.in-One.is c.only_hop.ensures in
          let only : listed_hops_of reach at ≡ w.in-One.hop ∷ [] = ap (λ (r : Reach). listed_hops_of r at) (sym c.requires.along)
          ∙ hops_along c.args.walked.now.stretch c.args.step ∙ one in
          number_as (IsEntryTo reach at n) c.args.pool.now c.match-only_hop.pool c.match-only_hop.number w.in-One.hop
          (w.number-is ∙ w.in_ok-number-in-One.ensures.is) w.pool-is
          (only_number reach at n c.args.pool.now.entries.items w.in-One.hop only w.if-hop-walked.true c.requires.single)
      | in_default-only_hop+in_ok-number_over-in_default-only_hop+in_ok-number-in_default-only_hop w ↦
          let own : ℕ = w.in_ok-number_over-in_default-only_hop.field-0 in
          number_as (IsEntryTo reach at n) w.number_over.new.pool c.match-only_hop.pool c.match-only_hop.number own
          (w.number-is ∙ w.in_ok-number-in_default-only_hop.ensures.is) w.pool-is
          (subst (λ (i : ℕ). HasNumber (IsEntryTo reach (i + c.args.step) n) w.number_over.new.pool.entries.items own) w.first.ensures
          w.in_ok-number_over-in_default-only_hop.ensures.number)
    ])
