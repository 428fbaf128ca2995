use Rattle.std.proofs.Common.{◌≡◌}
use Rattle.migrate_cli.proofs.OriginatedFacts.{originated_more}
use Rattle.migrate_cli.proofs.originated.originated_prefixes.Goals as goal

pub loop-router-preserved : goal.loop-router-preserved
loop-router-preserved c =
    let interfaces : c.as_slice.result.now ≡ c.config-config.result.now.interfaces = cc in
    originated_more c.args.net.now c.loop-router.router c.config-config.result.now _ _ _ c.config-config.ensures.router interfaces
    c.loop-router.invariant c.in_ok-add_originated.ensures
