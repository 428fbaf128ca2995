use Rattle.std.proofs.Common.{ℕ, List, Bor, inl}
use Rattle.ospf_pair.specs.NetworkPairs.{network_pair}
use Rattle.ospf_pair.proofs.MissingNames.{lesser_from_new}
use Rattle.ospf_pair.proofs.least.lesser_name.Goals as goal

pub returns-in-Some-None : goal.returns-in-Some-None
returns-in-Some-None c =
    inl (record { named = c.in-Some-None.ensures; before = λ its k. absurd (c.in-Some-None.ensures' its k) })

pub returns-in-None-default : goal.returns-in-None-default
returns-in-None-default c =
    lesser_from_new (λ (name : Bor (List ℕ)). name.now) (network_pair c.args.old.now c.args.new.now) c.args.router c.name_at-2.result
    c.in-None-default.ensures c.name_at-2.ensures
