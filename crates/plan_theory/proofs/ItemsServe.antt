-- Both kinds of numbers serve.
use Rattle.std.proofs.Common.{◌≡◌, length, refl}
use Rattle.igp_theory.specs.Migrations.{Migration}
use Rattle.plan_theory.specs.Ranked.{CanRank, base_of, ranked, size_of}
use Rattle.plan_theory.specs.declared.items.Items.{Items}
use Rattle.plan_theory.specs.declared.items.Items.TheVariants.{Routers, Changes}
use Rattle.plan_theory.proofs.ChangesServe.{changes_serve}
use Rattle.plan_theory.proofs.RoutersServe.{routers_ask, routers_serve}
use Rattle.plan_theory.specs.WavesMeaning.{night_meaning}
use Rattle.plan_theory.proofs.Serving.{Asks, Serves}

pub items_serve : (items : Items) (move : Migration) → CanRank items move → Serves move (ranked items move)
items_serve Routers move can = routers_serve move
items_serve Changes move begins = changes_serve move begins

pub ranked_size : (items : Items) (move : Migration) → (ranked items move).size ≡ size_of items (length move.net)
ranked_size Routers move = refl
ranked_size Changes move = refl

pub ranked_base : (items : Items) (move : Migration) → (ranked items move).base ≡ base_of items (length move.net)
ranked_base Routers move = refl
ranked_base Changes move = refl

pub items_ask : (items : Items) (move : Migration) → Asks move (ranked items move) (night_meaning items move)
items_ask Routers move = routers_ask move
items_ask Changes move = record {
  size = refl;
  base = refl;
  good = λ ranks. (λ good. good, λ good. good);
  real = λ a turns. (λ loops. loops, λ loops. loops);
  picked = λ ranks a turns. (λ told. told, λ told. told);
}
