use Rattle.std.proofs.lemmas.Bool.{eqb-true}
use Rattle.ospf_routes.proofs.TwinFacts.{both_alone}
use Rattle.ospf_routes.proofs.twins.have_one_home.Goals as goal

pub returns-in-Some-Some : goal.returns-in-Some-Some
returns-in-Some-Some c = λ same.
    both_alone c.args.one.now.homes.items c.args.other.now.homes.items c.in-Some-Some.home c.in-Some-Some.far c.in-Some-Some.ensures
    c.in-Some-Some.ensures' (eqb-true c.in-Some-Some.home c.in-Some-Some.far same)
