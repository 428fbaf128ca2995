-- A text names one wave list of single changes at most, or is refused, and in one way.
use Rattle.std.proofs.Common.{◌≡◌, ◌≢◌, ℕ, List, [], ◌∷◌, get_or, Contains, refl, sym, ap, subst, ◌∙◌, arith}
use Rattle.std.proofs.lemmas.List.{get_or_default, same_lists}
use Rattle.net_model.specs.Network.{Network}
use Rattle.net_model.specs.Refusals.{NamesAscend}
use Rattle.order_core.specs.Rankings.{rank_of}
use Rattle.step_scripts.specs.WaveLines.{waves_on}
use Rattle.step_scripts.specs.WaveFiles.{wave_at}
use Rattle.step_scripts.specs.declared.version.Version.TheVariants.{Two}
use Rattle.change_orders.specs.TwoFaults.{IsLeastTwoFault, IsTwoFaultyLine, RefusesTwo, two_kind_rank}
use Rattle.change_orders.specs.TwoFiles.{NamesTwo}
use Rattle.change_orders.specs.declared.kind.TwoKind.{TwoKind}
use Rattle.change_orders.specs.declared.kind.TwoKind.TheVariants.{Form, NotInNetwork, Twice, Missing, Early}
use Rattle.change_orders.specs.declared.kind.TwoRefusal.{TwoRefusal}
use Rattle.change_orders.specs.declared.kind.TwoRefusal.TheVariants.{Bad, OutOfMemory}
use Rattle.change_orders.proofs.ItemFacts.{item_named}

pub one_list : (net : Network) (text one other : List ℕ) → NamesAscend net → NamesTwo net text one → NamesTwo net text other → one ≡ other
one_list net text one other network h k =
    let entries : h.entries ≡ k.entries = cc (h.lines, k.lines) in
    same_lists one other (h.each ∙ sym k.each) (λ i d l.
    let its = item_named net i (omega (arith, l, h.each)) in
    let here = (h.seats its.0 i (rank_of one i) its.1).1 refl in
    let there = subst (λ es. Contains (wave_at (waves_on Two es) (rank_of one i)) its.0) entries here in
    let rank : rank_of one i ≡ rank_of other i = (k.seats its.0 i (rank_of one i) its.1).0 there in
    get_or_default one i d 0 l ∙ rank ∙ get_or_default other i 0 d (omega (arith, l, h.each, k.each)))

pub list_or_refusal : (net : Network) (text ranks : List ℕ) (refusal : TwoRefusal) → NamesTwo net text ranks → RefusesTwo net text refusal →
    refusal ≡ OutOfMemory
list_or_refusal net text ranks (Bad number kind) n r = absurd (n.faultless number kind r.faulty)
list_or_refusal net text ranks OutOfMemory n r = refl

-- the kind at a place among the kinds
abbrev kind_at : ℕ → TwoKind
kind_at n = get_or (Form ∷ Form ∷ NotInNetwork ∷ Twice ∷ Missing ∷ Early ∷ []) n Form

kind_back : (kind : TwoKind) → kind_at (two_kind_rank kind) ≡ kind
kind_back kind = grind arith

one_fault : (net : Network) (text : List ℕ) (l m : ℕ) (k j : TwoKind) → IsLeastTwoFault net text l k → IsLeastTwoFault net text m j →
    (l ≡ m) × (k ≡ j)
one_fault net text l m k j one other =
    let line : l ≡ m = omega (arith, one.least m j other.faulty, other.least l k one.faulty) in
    let here : IsTwoFaultyLine net text l j = subst (λ n. IsTwoFaultyLine net text n j) (sym line) other.faulty in
    let there : IsTwoFaultyLine net text m k = subst (λ n. IsTwoFaultyLine net text n k) line one.faulty in
    let ranks : two_kind_rank k ≡ two_kind_rank j = omega (arith, one.lowest j here, other.lowest k there) in
    (line, sym (kind_back k) ∙ ap kind_at ranks ∙ kind_back j)

pub one_refusal : (net : Network) (text : List ℕ) (one other : TwoRefusal) → one ≢ OutOfMemory → other ≢ OutOfMemory →
    RefusesTwo net text one → RefusesTwo net text other → one ≡ other
one_refusal net text (Bad l k) (Bad m j) first second one two =
    let same = one_fault net text l m k j one two in
    ap (λ n. Bad n k) same.0 ∙ ap (λ kind. Bad m kind) same.1
one_refusal net text (Bad l k) OutOfMemory first second one two = absurd (second refl)
one_refusal net text OutOfMemory other first second one two = absurd (first refl)
