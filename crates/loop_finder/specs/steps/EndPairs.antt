-- The hops of a router in Old and in New, as they are held.
use Rattle.std.specs.Prelude.{ℕ, List, [], ◌∷◌}
use Rattle.loop_finder.specs.declared.ends.Ends.{Ends}
use Rattle.loop_finder.specs.declared.ends.Ends.TheVariants.{One, Two, Each}

abbrev pub old_hops : Ends → List ℕ
old_hops (One hop) = hop ∷ []
old_hops (Two old new) = old ∷ []
old_hops (Each olds news) = olds.now

abbrev pub new_hops : Ends → List ℕ
new_hops (One hop) = hop ∷ []
new_hops (Two old new) = new ∷ []
new_hops (Each olds news) = news.now
