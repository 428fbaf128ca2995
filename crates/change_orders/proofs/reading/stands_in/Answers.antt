use Rattle.std.proofs.Common.{ℕ, None, get_or, ap, ◌∙◌}
use Rattle.std.proofs.lemmas.Bool.{false≢true}
use Rattle.change_orders.proofs.ItemFacts.{NamesItem-unique}
use Rattle.change_orders.proofs.reading.stands_in.Goals as goal

pub returns-in-Some : goal.returns-in-Some
returns-in-Some c = (
  λ yes. record { item = c.in-Some.item; names = c.in-Some.ensures; rank = c.is_wave.ensures.0 yes },
  λ is.
      let same = NamesItem-unique c.args.net.now c.args.word.now c.in-Some.item is.item c.requires.network.ascending c.in-Some.ensures is.names in
      c.is_wave.ensures.1 (ap (λ (i : ℕ). get_or c.args.ranks.now i None) same ∙ is.rank),
)

pub returns-in-None : goal.returns-in-None
returns-in-None c = (λ wrong. absurd (false≢true wrong), λ is. absurd (c.in-None.ensures is.item is.names))
