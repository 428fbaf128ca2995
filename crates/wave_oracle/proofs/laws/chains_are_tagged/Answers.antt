use Rattle.wave_oracle.proofs.ReadBack.{chain_tagged, change_chain_tagged}
use Rattle.wave_oracle.proofs.laws.chains_are_tagged.Goals as goal

pub returns : goal.returns
returns g c =
    let move = g.T.AnyMigration.migration in
    record { routers = λ budget found is. chain_tagged move budget found is; changes = λ budget found is. change_chain_tagged move budget found is }
