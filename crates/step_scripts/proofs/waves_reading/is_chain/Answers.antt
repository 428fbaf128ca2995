use Rattle.std.proofs.Common.{◌∙◌, ◌<◌, [], length, refl, sym, subst, arith}
use Rattle.std.proofs.lemmas.Bool.{false≢true}
use Rattle.std.proofs.lemmas.List.{get_or-map, length-map}
use Rattle.std.specs.Borrow.{Bor}
use Rattle.std.specs.Prelude.{ℕ, List}
use Rattle.step_scripts.specs.steps.ReadWaves.{NamesOneOf}
use Rattle.step_scripts.proofs.NamesOnLines.{bytes_all}
use Rattle.step_scripts.proofs.Zips.{zip_at, zip_from}
use Rattle.step_scripts.proofs.waves_reading.is_chain.Goals as goal

pub returns-then-not-names_one_of : goal.returns-then-not-names_one_of
returns-then-not-names_one_of c = (
  λ wrong. absurd (false≢true wrong),
  λ each.
      let within : c.loop-place.place < length c.args.seats.now = omega (arith, c.loop-place-test.true, c.if-names-count.false, c.count.ensures) in
      let here = zip_at (NamesOneOf c.args.net.now) c.args.seats.now (bytes_all c.args.names.now) c.loop-place.place [] [] each within in
      absurd (false≢true (sym c.if-not-names_one_of.true
      ∙ c.names_one_of.ensures.1 (subst (NamesOneOf c.args.net.now _)
      (get_or-map (λ (name : Bor (List ℕ)). name.now) c.args.names.now c.loop-place.place _ [] c.loop-place-test.true) here))),
)

pub returns : goal.returns
returns c = (
  λ _.
      let long = length-map c.args.names.now (λ (name : Bor (List ℕ)). name.now) in
      zip_from (NamesOneOf c.args.net.now) c.args.seats.now (bytes_all c.args.names.now) [] [] (omega (arith, long, c.if-names-count.false, c.count.ensures))
      (λ k l. c.loop-place.invariant k (omega (arith, l, c.if-names-count.false, c.count.ensures, c.loop-place-test.false))),
  λ _. refl,
)
