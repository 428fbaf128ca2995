-- The lines at indent 0 that say something, form by form.
use Rattle.std.proofs.Common.{arith}
use Rattle.std.proofs.lemmas.Grind.{common_steps}
use Rattle.std.proofs.Common.{◌≡◌, ◌⊎◌, inl, inr, Bool, true, false, not, cond, ◌&&◌, ◌||◌, List, Ok, Err, bytes_eq, codes, refl, sym, ap, subst, ◌∙◌}
use Rattle.std.proofs.lemmas.Bool.{and_parts}
use Rattle.std.proofs.lemmas.Slice.Eq.{bytes_eq-Decides}
use Rattle.net_model.specs.declared.bounds.TheConstants.{MOST_PROCESS}
use Rattle.ios_lines.specs.Words.{Word, word_at, says, lacks, number_from}
use Rattle.ios_lines.specs.Heads.{is_router_name, hostname_of, interface_name, interface_of, router_head, head_of}
use Rattle.ios_lines.specs.HeadLaws.{IsOfVrf, SaysHead, HeadLaw, names_router, names_badly, opens_interface, opens_ospf, opens_isis, opens_other}
use Rattle.ios_lines.specs.HeadLaws.{static_route}
use Rattle.ios_lines.specs.declared.kind.ReadKind.TheVariants.{NoHostname, SecondProcess, Unsupported}
use Rattle.ios_lines.specs.declared.head.Head.{Head}
use Rattle.ios_lines.specs.declared.head.Head.TheVariants.{Hostname, Interface, Ospf, Isis, Faulty, Other}

same_text : (word text : Word) → bytes_eq word text ≡ true → word ≡ text
same_text word text e = (bytes_eq-Decides word text).0 e

-- what a line says, by its first word
abbrev by_first : List Word → Word → Head
by_first words first =
    cond (bytes_eq first (codes "hostname")) (Hostname (hostname_of (word_at words 1)))
    (cond (bytes_eq first (codes "interface")) (Interface (interface_of (interface_name words)))
    (cond (bytes_eq first (codes "router")) (router_head words)
    (cond (bytes_eq first (codes "ip") && says words 1 (codes "route") && not (says words 2 (codes "vrf"))) (Faulty Unsupported) Other)))

-- and a line that begins with `router`, by its second
abbrev by_second : List Word → Word → Head
by_second words second =
    cond (bytes_eq second (codes "ospf"))
    (cond (says words 3 (codes "vrf") && not (lacks words 4)) Other (Ospf (number_from 1 MOST_PROCESS SecondProcess (word_at words 2))))
    (cond (bytes_eq second (codes "isis")) (Isis (word_at words 2))
    (cond (bytes_eq second (codes "eigrp") || bytes_eq second (codes "rip")) (Faulty Unsupported) Other))

-- ---- each line has one of the forms, or says nothing ----

abbrev HasForm : List Word → Head → Type 0
HasForm words head = (head ≡ Other) ⊎ SaysHead words head

named : (words : List Word) (t : Bool) → word_at words 0 ≡ codes "hostname" → is_router_name (word_at words 1) ≡ t →
    SaysHead words (Hostname (cond t (Ok (word_at words 1)) (Err NoHostname)))
named words true first good = names_router first good
named words false first bad = names_badly first bad

either_true : (t u : Bool) → (t || u) ≡ true → (t ≡ true) ⊎ (u ≡ true)
either_true t u e = grind (arith, common_steps)

process_form : (words : List Word) (v : Bool) → word_at words 0 ≡ codes "router" → word_at words 1 ≡ codes "ospf" →
    (says words 3 (codes "vrf") && not (lacks words 4)) ≡ v →
    HasForm words (cond v Other (Ospf (number_from 1 MOST_PROCESS SecondProcess (word_at words 2))))
process_form words true first second e = inl refl
process_form words false first second e = inr (opens_ospf first second (λ (of : IsOfVrf words). absurd (different (sym e ∙ of))))
  where
    different : false ≡ true → ⊥
    different e = cc

other_form : (words : List Word) → word_at words 0 ≡ codes "router" → (bytes_eq (word_at words 1) (codes "eigrp") ≡ true) ⊎
    (bytes_eq (word_at words 1) (codes "rip") ≡ true) → SaysHead words (Faulty Unsupported)
other_form words first (inl e) = opens_other first (inl (same_text (word_at words 1) (codes "eigrp") e))
other_form words first (inr e) = opens_other first (inr (same_text (word_at words 1) (codes "rip") e))

router_form : (words : List Word) (o i x : Bool) → word_at words 0 ≡ codes "router" → bytes_eq (word_at words 1) (codes "ospf") ≡ o →
    bytes_eq (word_at words 1) (codes "isis") ≡ i → (bytes_eq (word_at words 1) (codes "eigrp") || bytes_eq (word_at words 1) (codes "rip")) ≡ x →
    HasForm words (cond o (cond (says words 3 (codes "vrf") && not (lacks words 4)) Other (Ospf (number_from 1 MOST_PROCESS SecondProcess (word_at words 2))))
    (cond i (Isis (word_at words 2)) (cond x (Faulty Unsupported) Other)))
router_form words true i x first eo ei ex =
    process_form words (says words 3 (codes "vrf") && not (lacks words 4)) first (same_text (word_at words 1) (codes "ospf") eo) refl
router_form words false true x first eo ei ex = inr (opens_isis first (same_text (word_at words 1) (codes "isis") ei))
router_form words false false true first eo ei ex =
    inr (other_form words first (either_true (bytes_eq (word_at words 1) (codes "eigrp")) (bytes_eq (word_at words 1) (codes "rip")) ex))
router_form words false false false first eo ei ex = inl refl

head_form : (words : List Word) (h i r p : Bool) → bytes_eq (word_at words 0) (codes "hostname") ≡ h → bytes_eq (word_at words 0) (codes "interface") ≡ i →
    bytes_eq (word_at words 0) (codes "router") ≡ r →
    (bytes_eq (word_at words 0) (codes "ip") && says words 1 (codes "route") && not (says words 2 (codes "vrf"))) ≡ p →
    HasForm words (cond h (Hostname (hostname_of (word_at words 1))) (cond i (Interface (interface_of (interface_name words)))
    (cond r (router_head words) (cond p (Faulty Unsupported) Other))))
head_form words true i r p eh ei er ep =
    inr (named words (is_router_name (word_at words 1)) (same_text (word_at words 0) (codes "hostname") eh) refl)
head_form words false true r p eh ei er ep = inr (opens_interface (same_text (word_at words 0) (codes "interface") ei))
head_form words false false true p eh ei er ep =
    router_form words (bytes_eq (word_at words 1) (codes "ospf")) (bytes_eq (word_at words 1) (codes "isis"))
    (bytes_eq (word_at words 1) (codes "eigrp") || bytes_eq (word_at words 1) (codes "rip")) (same_text (word_at words 0) (codes "router") er) refl refl refl
head_form words false false false true eh ei er ep =
    let both = and_parts (bytes_eq (word_at words 0) (codes "ip") && says words 1 (codes "route")) (not (says words 2 (codes "vrf"))) ep in
    let two = and_parts (bytes_eq (word_at words 0) (codes "ip")) (says words 1 (codes "route")) both.0 in
    inr (static_route (same_text (word_at words 0) (codes "ip") two.0) (same_text (word_at words 1) (codes "route") two.1)
    (not_so (says words 2 (codes "vrf")) both.1))
  where
    not_so : (b : Bool) → not b ≡ true → b ≡ false
    not_so true e = sym e
    not_so false e = refl
head_form words false false false false eh ei er ep = inl refl

there : (words : List Word) → HasForm words (head_of words)
there words = grind (arith, common_steps, head_form)

-- ---- a line of a form says that ----

by_name : (words : List Word) (t : Bool) → word_at words 0 ≡ codes "hostname" → is_router_name (word_at words 1) ≡ t →
    head_of words ≡ Hostname (cond t (Ok (word_at words 1)) (Err NoHostname))
by_name words t first good = grind (arith, common_steps)

by_router : (words : List Word) (second : Word) → word_at words 0 ≡ codes "router" → word_at words 1 ≡ second → head_of words ≡ by_second words second
by_router words second first e = ap (by_first words) first ∙ ap (by_second words) e

not_true : (b : Bool) → (b ≡ true → ⊥) → b ≡ false
not_true b none = grind (arith, common_steps)

said : (words : List Word) (head : Head) → SaysHead words head → head_of words ≡ head
said words head (names_router first good) = by_name words true first good
said words head (names_badly first bad) = by_name words false first bad
said words head (opens_interface first) = ap (by_first words) first
said words head (opens_ospf first second none) =
    by_router words (codes "ospf") first second
    ∙ ap (λ (b : Bool). cond b Other (Ospf (number_from 1 MOST_PROCESS SecondProcess (word_at words 2))))
    (not_true (says words 3 (codes "vrf") && not (lacks words 4)) none)
said words head (opens_isis first second) = by_router words (codes "isis") first second
said words head (opens_other first (inl e)) = by_router words (codes "eigrp") first e
said words head (opens_other first (inr e)) = by_router words (codes "rip") first e
said words head (static_route first second free) =
    ap (by_first words) first
    ∙ ap (λ (w : Word). cond (bytes_eq w (codes "route") && not (says words 2 (codes "vrf"))) (Faulty Unsupported) Other) second
    ∙ ap (λ (b : Bool). cond (not b) (Faulty Unsupported) Other) free

pub head_law : HeadLaw
head_law words head some = (λ (e : head_of words ≡ head). found e (there words), said words head)
  where
    found : head_of words ≡ head → HasForm words (head_of words) → SaysHead words head
    found e (inl none) = absurd (some (sym e ∙ none))
    found e (inr form) = subst (SaysHead words) e form
