use Rattle.wave_oracle.specs.Nights.{night_move}
use Rattle.wave_oracle.proofs.NightLaws.{night_base_is}
use Rattle.wave_oracle.proofs.night_oracle.NightOracleOracle.base.Goals as goal

pub returns-clause-is_base : goal.returns-clause-is_base
returns-clause-is_base g c =
    night_base_is c.args.self.now.items (night_move g.O.RouteSource.table g.N.RouteSource.table c.args.self.now)
