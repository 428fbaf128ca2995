use Rattle.std.proofs.Common.{◌≡◌, ℕ, ◌<◌, List, [], length, Contains, Vec, Global, map, subst, sym, ◌∙◌, ap, arith}
use Rattle.std.proofs.lemmas.List.{get_or-map, length-map}
use Rattle.step_scripts.specs.WaveFiles.{wave_at}
use Rattle.step_scripts.proofs.seats.Seats.has.Goals as goal

pub returns : goal.returns
returns c =
    let waves : List (Vec ℕ Global) = c.self.inside.waves.items in
    let wave : Vec ℕ Global = c.index.result.now in
    let f = λ (own : Vec ℕ Global). own.items in
    let seats : map f waves ≡ c.args.self.now = c.self.view_is in
    let within : c.args.wave < length waves = omega (arith, c.requires, ap length seats, length-map waves f) in
    let read : c.as_slice.result.now ≡ wave_at c.args.self.now c.args.wave =
    c.as_slice.ensures.value ∙ ap f c.index.ensures ∙ sym (get_or-map f waves c.args.wave wave [] within)
    ∙ ap (λ (l : List (List ℕ)). wave_at l c.args.wave) seats in (
      λ yes. subst (λ (l : List ℕ). Contains l c.args.router) read (c.is_listed.ensures.0 yes),
      λ has. c.is_listed.ensures.1 (subst (λ (l : List ℕ). Contains l c.args.router) (sym read) has),
    )
