use Rattle.std.proofs.Common.{refl, arith}
use Rattle.migrate_cli.proofs.reading.read_whole.Goals as goal

pub returns-in-Ok-clause-stop : goal.returns-in-Ok-clause-stop
returns-in-Ok-clause-stop g c = (
  refl,
  record {
    text = c.in-Ok.text;
    read = record { told = c.in-Ok.ensures.told; at_most = c.in-Ok.ensures.at_most };
    long = grind arith;
  },
)
