use Rattle.std.proofs.Common.{◌≡◌, ℕ, List, [], ◌∷◌, ◌++◌, length, Vec, Global, map, subst, sym, ◌∙◌, ap}
use Rattle.std.proofs.lemmas.List.{map-append}
use Rattle.step_scripts.specs.steps.ReadWaves.{AreNoted, KnowPlaces, Noted}
use Rattle.step_scripts.proofs.WaveLists.{places_more}
use Rattle.step_scripts.proofs.seats.Seats.add.Goals as goal

pub invariant_of-self-2 : goal.invariant_of-self-2
invariant_of-self-2 c =
    let waves : List (Vec ℕ Global) = c.self.inside.waves.items in
    let f = λ (wave : Vec ℕ Global). wave.items in
    let noted : Noted = record { before = c.self.inside.places.items; after = c.note.new.places.items } in
    let all : c.push_reserved.new.self.items ≡ waves ++ c.args.routers ∷ [] =
    c.push_reserved.ensures.items ∙ ap (λ (l : List (Vec ℕ Global)). l ++ c.args.routers ∷ []) c.reserve.ensures.items in
    let seats : map f c.push_reserved.new.self.items ≡ map f waves ++ c.args.routers.items ∷ [] =
    ap (map f) all ∙ map-append f waves (c.args.routers ∷ []) in
    let count : c.count-wave.result ≡ length (map f waves) = c.count-wave.ensures ∙ ap length (sym c.self.view_is) in
    subst (λ (l : List (List ℕ)). KnowPlaces l c.note.new.places.items) (sym seats)
    (places_more (map f waves) c.args.routers.items c.self.inside.places.items c.note.new.places.items c.self.invariant
    (subst (λ (l : List ℕ). AreNoted l (length (map f waves)) noted) c.as_slice.ensures.value
    (subst (λ (n : ℕ). AreNoted c.as_slice.result.now n noted) count c.note.ensures)))
