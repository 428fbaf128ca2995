use Rattle.std.proofs.Common.{◌∙◌, refl, sym}
use Rattle.std.proofs.lemmas.Bool.{false≢true}
use Rattle.ospf_routes.proofs.AreaFacts.{not_true}
use Rattle.ospf_routes.proofs.twins.are_twins.Goals as goal

pub returns : goal.returns
returns c = λ free. record {
  d = c.index-destinations-one.result;
  e = c.index-destinations-other.result;
  d_at = c.index-destinations-one.is;
  e_at = c.index-destinations-other.is;
  twins = record {
    homes = c.if-not-have_one_home.ensures refl;
    parts = c.if-not-have_twin_offers.ensures refl;
    no_range = λ any. false≢true (c.if-has.ensures.1 any);
    other_no_range = λ any. false≢true (sym (not_true c.has-2.result free) ∙ c.has-2.ensures.1 any);
  };
  announced = c.if-not-have_twin_summaries.ensures refl;
}
