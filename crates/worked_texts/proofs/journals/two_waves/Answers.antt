use Rattle.std.proofs.Common.{◌≡◌, ℕ, zero, suc, ◌<◌, ◌≤◌, List, [], ◌∷◌, get_or, Contains, refl, arith}
use Rattle.worked_texts.proofs.journals.two_waves.Goals as goal

abbrev ranks : List ℕ
ranks = 0 ∷ 1 ∷ 0 ∷ []

low : (r k : ℕ) → k < 3 → get_or ranks k r ≡ r → r ≤ 1
low r zero within is = omega (arith, is)
low r (suc zero) within is = omega (arith, is)
low r (suc (suc zero)) within is = omega (arith, is)
low r (suc (suc (suc k))) within is = absurd (omega (arith, within))

there : (w : ℕ) → w ≤ 1 → Contains ranks w
there zero low = (0, omega arith, refl)
there (suc zero) low = (1, omega arith, refl)
there (suc (suc w)) low = absurd (omega (arith, low))

pub returns : goal.returns
returns c = record { each = refl; whole = λ w r upto inside. there w (let most = low r inside.0 inside.1 inside.2 in omega (arith, upto, most)) }
