use Rattle.std.proofs.Common.{inl, inr, arith}
use Rattle.loop_finder.proofs.making.Making.new.Goals as goal

pub returns-clause-making : goal.returns-clause-making
returns-clause-making c = record {
  olds_many = c.in_ok-lists.ensures.olds.many;
  news_many = c.in_ok-lists.ensures.news.many;
  marks_many = omega (arith, c.in_ok-vec.ensures.len);
  returns = λ u h hops follows. absurd (elim follows.0 [
    | inl among ↦ c.in_ok-lists.ensures.olds.none u h among
    | inr among ↦ c.in_ok-lists.ensures.news.none u h among
  ]);
}
