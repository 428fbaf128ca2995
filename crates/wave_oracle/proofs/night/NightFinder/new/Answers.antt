use Rattle.std.proofs.Common.{◌≡◌, length, arith, sym, ap, ◌∙◌}
use Rattle.rib_mix.specs.Mixture.{migration_of}
use Rattle.igp_theory.specs.Phases.{state_in}
use Rattle.plan_theory.specs.Ranked.{base_of}
use Rattle.wave_oracle.specs.Nights.{night_start}
use Rattle.wave_oracle.proofs.PlanNight.{start_of_night}
use Rattle.wave_oracle.proofs.night.NightFinder.new.Goals as goal

pub invariant_of-result : goal.invariant_of-result
invariant_of-result g c =
    let routers : c.routers-routers.result ≡ length c.args.mixed.now.net = c.routers-routers.ensures.count ∙ ap length c.net.ensures in
    record {
      same = c.in_ok-from_start.ensures.mixture;
      begins = ap state_in c.in_ok-from_start.ensures.start
          ∙ sym (start_of_night c.args.items c.args.start.now (migration_of g.O.RouteSource.table g.N.RouteSource.table c.args.mixed.now) c.requires.ranks)
          ∙ ap (night_start c.args.items) (sym c.in_ok-from_slice.ensures.items);
      each = ap length c.in_ok-from_slice.ensures.items ∙ c.requires.each;
      few = c.requires.few;
      base_is = c.in_ok-base_pairs.ensures ∙ ap (base_of c.args.items) routers;
      times_many = c.in_ok-vec.ensures.len ∙ routers;
      turns_fit = omega (arith, c.in_ok-with_capacity.ensures.exact, routers);
    }
