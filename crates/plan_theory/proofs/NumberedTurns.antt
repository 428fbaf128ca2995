-- The turns of a ring by the numbers that they have to name.
use Rattle.std.proofs.Common.{◌≡◌, ℕ, ◌+◌, ◌<◌, List, [], ◌∷◌, ◌++◌, length, get_or, take, All, Contains, arith, refl, sym, ap, ◌∙◌}
use Rattle.std.proofs.lemmas.List.{map-append, take_more}
use Rattle.std.proofs.lemmas.List.Elements.{All-contains_itself, All-push, All-weaker}
use Rattle.igp_theory.specs.Forwarding.{MustForward, Steps}
use Rattle.igp_theory.specs.Loops.{IsTagOf}
use Rattle.igp_theory.specs.Migrations.{Migration}
use Rattle.igp_theory.specs.declared.phase.Phase.{Phase}
use Rattle.igp_theory.specs.declared.phase.Phase.TheVariants.{New}
use Rattle.igp_theory.proofs.Rings.{around_at}
use Rattle.igp_theory.proofs.Tags.{IsTagTo, AreTagged}
use Rattle.order_core.specs.declared.turn.Tag.{Tag}
use Rattle.order_core.specs.declared.turn.Tag.TheVariants as tag
use Rattle.order_core.specs.declared.turn.Turn.{Turn}
use Rattle.plan_theory.specs.Ranked.{by_router, ranked}
use Rattle.plan_theory.specs.declared.items.Items.{Items}
use Rattle.plan_theory.specs.declared.items.Items.TheVariants.{Routers, Changes}
use Rattle.plan_theory.specs.Numbers.{AreNumbered, turn_of}

-- whoever has a tag has to pass packets on
tag_must : (move : Migration) (u a h : ℕ) (start : Phase) (t : Tag) →
    IsTagOf t (Steps move u start a h) (Steps move u New a h) → MustForward move.net a u
tag_must move u a h start tag.Old is = is.0.must
tag_must move u a h start tag.New is = is.1.must
tag_must move u a h start tag.Both is = is.0.must

-- each turn of a tagged ring has to
pub turns_must : (move : Migration) (a : ℕ) (turns : List Turn) → AreTagged move a turns →
    All (λ (t : Turn). MustForward move.net a t.router) turns
turns_must move a turns tags =
    All-weaker (Contains turns) (λ (t : Turn). MustForward move.net a t.router)
    (λ t among. let at = around_at (IsTagTo move a) turns t tags among in
    tag_must move t.router a at.0.router (move.start t.router) t.tag at.1.steps) turns
    (All-contains_itself turns)

-- one turn more

ring_append : (items : Items) (move : Migration) (xs ys : List Turn) →
    (ranked items move).ring (xs ++ ys) ≡ (ranked items move).ring xs ++ (ranked items move).ring ys
ring_append Routers move xs ys = refl
ring_append Changes move xs ys = map-append by_router xs ys

ring_none : (items : Items) (move : Migration) → (ranked items move).ring [] ≡ []
ring_none Routers move = refl
ring_none Changes move = refl

pub none_numbered : (items : Items) (move : Migration) (a : ℕ) → AreNumbered items move a [] []
none_numbered items move a = record { ring = ring_none items move; named = λ k d within. absurd (omega (arith, within)) }

pub numbered_more : (items : Items) (move : Migration) (a : ℕ) (turns numbered : List Turn) (i number : ℕ) (d : Turn) → i < length turns →
    AreNumbered items move a (take i turns) numbered →
    (ranked items move).ring (turn_of number (get_or turns i d).tag ∷ []) ≡ turn_of (get_or turns i d).router (get_or turns i d).tag ∷ [] →
    (ranked items move).names a (turn_of number (get_or turns i d).tag) →
    AreNumbered items move a (take (i + 1) turns) (numbered ++ turn_of number (get_or turns i d).tag ∷ [])
numbered_more items move a turns numbered i number d within so_far ring names = record {
  ring = ring_append items move numbered (turn_of number (get_or turns i d).tag ∷ [])
      ∙ ap (λ (l : List Turn). l ++ (ranked items move).ring (turn_of number (get_or turns i d).tag ∷ [])) so_far.ring
      ∙ ap (λ (l : List Turn). take i turns ++ l) ring ∙ sym (take_more turns i d within);
  named = All-push ((ranked items move).names a) numbered (turn_of number (get_or turns i d).tag) so_far.named names;
}
