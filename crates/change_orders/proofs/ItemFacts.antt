-- Words of changes, and the items that they name.
use Rattle.std.proofs.Common.{◌≡◌, true, false, Option, Some, None, MatchOption, All, get_or, ℕ, ◌+◌, ◌-◌, ◌*◌, ◌/◌, ◌%◌, ◌<◌, List, [], ◌∷◌, ◌++◌, length, take, drop, refl, sym, ap, subst, ◌∙◌, arith}
use Rattle.std.specs.Prelude.{is_some}
use Rattle.std.specs.List.{AllZip}
use Rattle.std.proofs.lemmas.List.{append_cancel_left, length-append, length-take-le}
use Rattle.std.proofs.Math.Seq.{drop-append_seam, take-append_seam}
use Rattle.std.proofs.lemmas.Slice.Zip.{AllZip-long}
use Rattle.net_model.specs.Lookups.{IsNamed}
use Rattle.net_model.specs.Network.{Network}
use Rattle.net_model.specs.Refusals.{NamesAscend}
use Rattle.net_model.proofs.Names.{named_within}
use Rattle.net_model.proofs.NetworkFacts.{IsNamed-unique}
use Rattle.step_scripts.proofs.Routers.{has_name, same_name}
use Rattle.step_scripts.proofs.Splits.{one_split}
use Rattle.step_scripts.proofs.Zips.{zip_at}
use Rattle.change_orders.specs.ChangeWords.{IsChangeNumber, IsChangeWord, change_word, NamesItem}
use Rattle.change_orders.specs.steps.Found.{EndsAsChange}

-- what the word of a change is made of
pub record IsMadeOf (word name : List ℕ) (c : ℕ) : Type 0 where
  pub long : length word ≡ length name + 2
  pub front : take (length word - 2) word ≡ name
  pub back : drop (length word - 2) word ≡ 58 ∷ (48 + c) ∷ []

pub made_of : (word name : List ℕ) (c : ℕ) → word ≡ change_word name c → IsMadeOf word name c
made_of word name c is =
    let long : length word ≡ length name + 2 = ap length is ∙ length-append name (58 ∷ (48 + c) ∷ []) in
    let short : length word - 2 ≡ length name = omega arith in
    record {
      long = long;
      front = ap (λ k. take k word) short ∙ ap (take (length name)) is ∙ take-append_seam name (58 ∷ (48 + c) ∷ []);
      back = ap (λ k. drop k word) short ∙ ap (drop (length name)) is ∙ drop-append_seam name (58 ∷ (48 + c) ∷ []);
    }

-- a word is that of one change
pub word_parts : (one other : List ℕ) (c d : ℕ) → change_word one c ≡ change_word other d → (one ≡ other) × (c ≡ d)
word_parts one other c d same =
    let long : length one ≡ length other =
    omega (arith, ap length same, length-append one (58 ∷ (48 + c) ∷ []), length-append other (58 ∷ (48 + d) ∷ [])) in
    let fronts = one_split one 58 ((48 + c) ∷ []) other 58 ((48 + d) ∷ []) long same in
    let backs : 58 ∷ (48 + c) ∷ [] ≡ 58 ∷ (48 + d) ∷ [] =
    append_cancel_left other (58 ∷ (48 + c) ∷ []) (58 ∷ (48 + d) ∷ [])
    (ap (λ l. l ++ 58 ∷ (48 + c) ∷ []) (sym fronts.0) ∙ same) in
    let digits : 48 + c ≡ 48 + d = cc in
    (fronts.0, omega arith)

same_parts : (u v c d i : ℕ) → IsChangeNumber c → IsChangeNumber d → i + 1 ≡ 2 * u + c → i + 1 ≡ 2 * v + d → (u ≡ v) × (c ≡ d)
same_parts u v c d i one two e f = (omega arith, omega arith)

-- a word names one item
pub NamesItem-unique : (net : Network) (word : List ℕ) (i j : ℕ) → NamesAscend net → NamesItem net word i → NamesItem net word j → i ≡ j
NamesItem-unique net word i j up h k =
    let parts = word_parts h.name k.name h.number k.number (sym h.word_is ∙ k.word_is) in
    let routers : h.router ≡ k.router =
    IsNamed-unique net k.name h.router k.router up (subst (λ n. IsNamed net n h.router) parts.0 h.named) k.named in
    omega (arith, parts.1, routers, h.item_is, k.item_is)

-- an item has one word
pub NamesItem-word : (net : Network) (one other : List ℕ) (i : ℕ) → NamesItem net one i → NamesItem net other i → one ≡ other
NamesItem-word net one other i h k =
    let parts = same_parts h.router k.router h.number k.number i h.is_number k.is_number h.item_is k.item_is in
    let names : h.name ≡ k.name = same_name net h.name k.name k.router (subst (IsNamed net h.name) parts.0 h.named) k.named in
    h.word_is ∙ ap (λ n. change_word n h.number) names ∙ ap (change_word k.name) parts.1 ∙ sym k.word_is

pub NamesItem-below : (net : Network) (word : List ℕ) (i : ℕ) → NamesItem net word i → i < 2 * length net
NamesItem-below net word i h = omega (arith, named_within net h.name h.router h.named, h.item_is, h.is_number)

-- each item below the count of changes has a word
pub item_named : (net : Network) (i : ℕ) → i < 2 * length net → (word : List ℕ) × NamesItem net word i
item_named net i l =
    let below : i / 2 < length net = omega arith in
    let its = has_name net (i / 2) below in (
      change_word its.0 (i % 2 + 1),
      record {
        router = i / 2;
        name = its.0;
        named = its.1;
        number = i % 2 + 1;
        is_number = (omega arith, omega arith);
        word_is = refl;
        item_is = omega arith;
      },
    )

-- the two changes of a router
pub first_named : (net : Network) (name : List ℕ) (u : ℕ) → IsNamed net name u → NamesItem net (change_word name 1) (2 * u)
first_named net name u h = record {
  router = u;
  name = name;
  named = h;
  number = 1;
  is_number = (omega arith, omega arith);
  word_is = refl;
  item_is = omega arith;
}

pub second_named : (net : Network) (name : List ℕ) (u : ℕ) → IsNamed net name u → NamesItem net (change_word name 2) (2 * u + 1)
second_named net name u h = record {
  router = u;
  name = name;
  named = h;
  number = 2;
  is_number = (omega arith, omega arith);
  word_is = refl;
  item_is = omega arith;
}

-- a word that names a second change
pub record IsSecondOf (net : Network) (word : List ℕ) (u : ℕ) : Type 0 where
  pub name : List ℕ
  pub named : IsNamed net name u
  pub word_is : word ≡ change_word name 2

pub second_of : (net : Network) (word : List ℕ) (u : ℕ) → NamesItem net word (2 * u + 1) → IsSecondOf net word u
second_of net word u h =
    let router : h.router ≡ u = omega (arith, h.item_is, h.is_number) in
    let number : h.number ≡ 2 = omega (arith, h.item_is, h.is_number) in
    record { name = h.name; named = subst (IsNamed net h.name) router h.named; word_is = h.word_is ∙ ap (change_word h.name) number }

-- the number of a second change's item
pub second_item : (net : Network) (name : List ℕ) (i : ℕ) (h : NamesItem net (change_word name 2) i) → (i ≡ 2 * h.router + 1) × IsNamed net name h.router
second_item net name i h =
    let parts = word_parts name h.name 2 h.number h.word_is in
    (omega (arith, h.item_is, parts.1), subst (λ n. IsNamed net n h.router) (sym parts.0) h.named)

-- whether a word of three bytes or more is that of a change, by what it ends with
pub change_word_if : (word : List ℕ) (o : Option ℕ) → 2 < length word →
    MatchOption o ((c : ℕ) → EndsAsChange word c → ⊥) (λ c. IsChangeNumber c × (word ≡ change_word (take (length word - 2) word) c)) →
    (is_some o ≡ true → IsChangeWord word) × (IsChangeWord word → is_some o ≡ true)
change_word_if word None l m =
    (λ t. absurd (let f : false ≡ true = t in cc), λ h. absurd (m h.number (record { name = h.name; is_number = h.is_number; word_is = h.word_is })))
change_word_if word (Some c) l m = (
  λ t. record {
    name = take (length word - 2) word;
    some = omega (arith, length-take-le (length word - 2) word (omega arith));
    number = c;
    is_number = m.0;
    word_is = m.1;
  },
  λ h. refl,
)

-- the name in front of the change of a word that names an item
pub name_in_front : (net : Network) (word : List ℕ) (c i : ℕ) → word ≡ change_word (take (length word - 2) word) c → (n : NamesItem net word i) →
    (n.name ≡ take (length word - 2) word) × (n.number ≡ c)
name_in_front net word c i is n = word_parts n.name (take (length word - 2) word) n.number c (sym n.word_is ∙ is)

-- items that words name are below the count of changes
pub items_below : (net : Network) (words : List (List ℕ)) (items : List ℕ) → AllZip (NamesItem net) words items → All (λ i. i < 2 * length net) items
items_below net words items named k d l =
    let long = AllZip-long (NamesItem net) words items named in
    NamesItem-below net (get_or words k []) (get_or items k d) (zip_at (NamesItem net) words items k [] d named (omega (arith, long, l)))
