-- The numbers of routers serve.
use Rattle.std.proofs.Common.{length, refl, sym, ◌∙◌}
use Rattle.std.proofs.lemmas.List.{map-id}
use Rattle.igp_theory.specs.Migrations.{Migration}
use Rattle.igp_theory.proofs.OnesRuns.{order_has_ones, order_has_one_run}
use Rattle.igp_theory.proofs.Switches.{routers_have_times, router_switches}
use Rattle.order_search.specs.Meanings.{KeepsPairs-nil}
use Rattle.plan_theory.specs.Ranked.{routers_ranked}
use Rattle.plan_theory.specs.WavesMeaning.{waves_meaning}
use Rattle.plan_theory.proofs.Serving.{Asks, Serves}

pub routers_serve : (move : Migration) → Serves move (routers_ranked move)
routers_serve move = record {
  router = λ u. u;
  ring_is = λ turns. sym (map-id turns);
  inside = λ a t named below. below;
  one = λ a s t one two same. same;
  table = λ ranks waves keeps. routers_have_times (length move.net) move.start ranks;
  switched = λ ranks a t next table named tagged. router_switches move ranks a t next tagged;
  ranked = λ run along.
      let ones = order_has_ones (length move.net) along.order along.lists in
      record {
        ranks = ones.0;
        waves = ones.2;
        keeps = KeepsPairs-nil ones.0;
        only = λ other is. order_has_one_run (length move.net) move.start along.order ones.0 other along.lists ones.1 is ∙ sym along.run_is;
      };
}

pub routers_ask : (move : Migration) → Asks move (routers_ranked move) (waves_meaning move)
routers_ask move = record {
  size = refl;
  base = refl;
  good = λ ranks. (
    λ good. record { waves = good.waves; keeps = KeepsPairs-nil ranks; throughout = good.throughout },
    λ good. record { waves = good.waves; throughout = good.throughout },
  );
  real = λ a turns. (λ loops. record { is_loop = loops; named = λ k d within. tt }, λ loops. loops.is_loop);
  picked = λ ranks a turns. (
    λ told. record { wave = told.wave; is_fault = told.is_fault; named = λ k d within. tt },
    λ told. record { wave = told.wave; is_fault = told.is_fault },
  );
}
