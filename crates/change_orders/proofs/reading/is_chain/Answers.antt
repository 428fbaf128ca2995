use Rattle.std.proofs.Common.{ℕ, ◌<◌, Option, List, [], map, length, get_or, Contains, refl, sym, subst, ◌∙◌, arith, below_more}
use Rattle.std.specs.Borrow.{Bor}
use Rattle.std.proofs.lemmas.Bool.{false≢true}
use Rattle.std.proofs.lemmas.List.{get_or-map, length-map}
use Rattle.std.proofs.lemmas.Slice.Zip.{AllZip-long}
use Rattle.step_scripts.specs.WaveLines.{waves_on}
use Rattle.step_scripts.specs.declared.version.Version.TheVariants.{Two}
use Rattle.step_scripts.proofs.Zips.{zip_at, zip_from}
use Rattle.change_orders.specs.steps.Standing.{StandsIn, standing}
use Rattle.change_orders.proofs.TakenLines.{stands_from, stands_in_wave}
use Rattle.change_orders.proofs.reading.is_chain.Goals as goal

-- a word is one of a wave
abbrev IsOneOf : List (List ℕ) → List ℕ → Type 0
IsOneOf wave word = Contains wave word

pub returns-then-words-read : goal.returns-then-words-read
returns-then-words-read c = λ lines led. (
  λ wrong. absurd (false≢true wrong),
  λ each.
      let words = map (λ (word : Bor (List ℕ)). word.now) c.args.words.now in
      let long = AllZip-long IsOneOf (waves_on Two lines) words each in
      absurd (omega (arith, long, length-map c.args.words.now (λ (word : Bor (List ℕ)). word.now), led.count, c.if-words-read.true)),
)

pub returns-then-not-stands_in : goal.returns-then-not-stands_in
returns-then-not-stands_in c = λ lines led. (
  λ wrong. absurd (false≢true wrong),
  λ each.
      let words = map (λ (word : Bor (List ℕ)). word.now) c.args.words.now in
      let within : c.loop-place.place < length (waves_on Two lines) = omega (arith, led.count, c.if-words-read.false, c.loop-place-test.true) in
      let here = zip_at IsOneOf (waves_on Two lines) words c.loop-place.place [] [] each within in
      let stands = stands_from c.args.net.now lines (standing c.args.read.now) led (get_or words c.loop-place.place []) c.loop-place.place here in
      let told = subst (λ (l : List (Option ℕ)). StandsIn c.args.net.now l (get_or words c.loop-place.place []) c.loop-place.place)
      (sym c.as_slice.ensures.value) stands in
      absurd (false≢true (sym c.if-not-stands_in.true ∙ c.stands_in.ensures.1
      (subst (λ (word : List ℕ). StandsIn c.args.net.now c.as_slice.result.now word c.loop-place.place)
      (get_or-map (λ (word : Bor (List ℕ)). word.now) c.args.words.now c.loop-place.place _ [] c.loop-place-test.true) told))),
)

pub loop-place-preserved : goal.loop-place-preserved
loop-place-preserved c = below_more _ _ c.loop-place.invariant
    (subst (λ (l : List (Option ℕ)). StandsIn c.args.net.now l (get_or (map (λ (word : Bor (List ℕ)). word.now) c.args.words.now) c.loop-place.place [])
    c.loop-place.place) c.as_slice.ensures.value
    (subst (λ (word : List ℕ). StandsIn c.args.net.now c.as_slice.result.now word c.loop-place.place)
    (sym (get_or-map (λ (word : Bor (List ℕ)). word.now) c.args.words.now c.loop-place.place _ [] c.loop-place-test.true))
    (c.stands_in.ensures.0 c.if-not-stands_in.false)))

pub returns : goal.returns
returns c = λ lines led. (
  λ _.
      let words = map (λ (word : Bor (List ℕ)). word.now) c.args.words.now in
      let long = length-map c.args.words.now (λ (word : Bor (List ℕ)). word.now) in
      zip_from IsOneOf (waves_on Two lines) words [] [] (omega (arith, long, led.count, c.if-words-read.false))
      (λ k l. stands_in_wave c.args.net.now lines (standing c.args.read.now) led (get_or words k []) k
      (c.loop-place.invariant k (omega (arith, l, led.count, c.if-words-read.false, c.loop-place-test.false)))),
  λ _. refl,
)
