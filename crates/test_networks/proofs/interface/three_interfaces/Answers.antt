use Rattle.std.proofs.Common.{◌≡◌, ◌≢◌, ◌∙◌, ℕ, zero, suc, ◌<◌, List, [], ◌∷◌, ◌++◌, length, get_or, All, ap, sym, subst}
use Rattle.std.proofs.Common.{arith}
use Rattle.std.specs.List.{AllPairs}
use Rattle.std.proofs.lemmas.List.Elements.{All-nil, All-push}
use Rattle.std.proofs.lemmas.List.Quantifiers.{all_pairs_push}
use Rattle.net_model.specs.Configuration.{IsInterface}
use Rattle.net_model.specs.declared.interface.Interface.{Interface}
use Rattle.test_networks.proofs.interface.three_interfaces.Goals as goal

-- two interfaces have different names
abbrev Apart : Interface → Interface → Type 0
Apart i j = i.name ≢ j.name

names_differ : (i j : Interface) (m n : ℕ) → i.name ≡ m ∷ [] → j.name ≡ n ∷ [] → (m ≡ n → ⊥) → Apart i j
names_differ i j m n is_m is_n apart same =
    let both : m ∷ [] ≡ n ∷ [] = sym is_m ∙ same ∙ is_n in
    apart (cc)

after_one : (a b : Interface) → Apart a b → (k : ℕ) (d : Interface) → k < length (a ∷ []) → Apart (get_or (a ∷ []) k d) b
after_one a b apart zero d within = apart
after_one a b apart (suc k) d within = absurd (omega arith)

after_two : (a b c : Interface) → Apart a c → Apart b c → (k : ℕ) (d : Interface) → k < length (a ∷ b ∷ []) →
    Apart (get_or (a ∷ b ∷ []) k d) c
after_two a b c one two zero d within = one
after_two a b c one two (suc zero) d within = two
after_two a b c one two (suc (suc k)) d within = absurd (omega arith)

three_apart : (a b c : Interface) → Apart a b → Apart a c → Apart b c → AllPairs Apart (a ∷ b ∷ c ∷ [])
three_apart a b c ab ac bc =
    all_pairs_push Apart (a ∷ b ∷ []) c
    (all_pairs_push Apart (a ∷ []) b (λ i j d before within. absurd (omega arith)) (after_one a b ab))
    (after_two a b c ac bc)

three_kept : (a b c : Interface) → IsInterface a → IsInterface b → IsInterface c → All IsInterface (a ∷ b ∷ c ∷ [])
three_kept a b c is_a is_b is_c =
    All-push IsInterface (a ∷ b ∷ []) c (All-push IsInterface (a ∷ []) b (All-push IsInterface [] a (All-nil IsInterface) is_a) is_b) is_c

-- one interface after the other
pushed : (none one two three given : List Interface) (a b c : Interface) → none ≡ [] → one ≡ none ++ a ∷ [] → two ≡ one ++ b ∷ [] →
    three ≡ two ++ c ∷ [] → given ≡ three → a ∷ b ∷ c ∷ [] ≡ given
pushed none one two three given a b c e f g h k =
    sym (k ∙ h ∙ ap (λ (l : List Interface). l ++ c ∷ []) (g ∙ ap (λ (l : List Interface). l ++ b ∷ []) (f
    ∙ ap (λ (l : List Interface). l ++ a ∷ []) e)))

pub returns-clause-kept : goal.returns-clause-kept
returns-clause-kept c =
    let x : Interface = c.args.zero in
    let y : Interface = c.args.one in
    let z : Interface = c.args.two in
    subst (λ (l : List Interface). All IsInterface l)
    (pushed c.new-all.result.items c.push.new.self.items c.push-2.new.self.items c.push-3.new.self.items c.from_vec.result x y z c.new-all.ensures.items
    c.in_ok-push.ensures.items c.in_ok-push-2.ensures.items c.in_ok-push-3.ensures.items c.from_vec.ensures)
    (three_kept x y z c.requires.kept.0 c.requires.kept.1 c.requires.kept.2)

pub returns-clause-apart : goal.returns-clause-apart
returns-clause-apart c =
    let x : Interface = c.args.zero in
    let y : Interface = c.args.one in
    let z : Interface = c.args.two in
    subst (λ (l : List Interface). AllPairs Apart l)
    (pushed c.new-all.result.items c.push.new.self.items c.push-2.new.self.items c.push-3.new.self.items c.from_vec.result x y z c.new-all.ensures.items
    c.in_ok-push.ensures.items c.in_ok-push-2.ensures.items c.in_ok-push-3.ensures.items c.from_vec.ensures)
    (three_apart x y z
    (names_differ x y 0 1 c.requires.zero c.requires.one (λ e. absurd (omega arith)))
    (names_differ x z 0 2 c.requires.zero c.requires.two (λ e. absurd (omega arith)))
    (names_differ y z 1 2 c.requires.one c.requires.two (λ e. absurd (omega arith))))
