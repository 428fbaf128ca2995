-- Lists of entries in their order: joined, alone of their kind, and over the same tables.
use Rattle.std.proofs.Common.{◌≡◌, ℕ, ◌+◌, ◌<◌, ◌↔◌, ◌⊎◌, ⊎_elim, inl, inr, List, [], ◌∷◌, ◌++◌, length, map, Contains}
use Rattle.std.proofs.Common.{AllPairs, refl, sym, ap, subst, ◌∙◌, arith}
use Rattle.std.proofs.lemmas.List.Elements.{Contains-append_cases, Contains-append_left, Contains-append_right}
use Rattle.std.proofs.lemmas.List.{map-append}
use Rattle.std.proofs.Common.{append_assoc}
use Rattle.std.proofs.lemmas.Bool.{cases_lt}
use Rattle.net_addr.specs.Addresses.{Block}
use Rattle.net_model.specs.RouterNames.{names_of}
use Rattle.net_model.proofs.Members.{Contains-cases, Contains-first, Contains-none}
use Rattle.route_core.specs.declared.entry.Entry.{Entry}
use Rattle.igp_theory.specs.Laws.{HaveSameTables}
use Rattle.igp_theory.specs.Migrations.{Migration, retabled}
use Rattle.igp_theory.specs.Routes.{Tables}
use Rattle.igp_theory.proofs.OrderedLists.{pairs_append, pairs_first, pairs_none, pairs_rest}
use Rattle.printed_lines.specs.Texts.{text_of}
use Rattle.printed_lines.proofs.TextSteps.{last_line, text_of-append}
use Rattle.shown_tables.specs.EntryLines.{shown_line}
use Rattle.shown_tables.specs.ShownEntries.{ShownEntry, IsShownBefore, by_router, by_igp, by_dest, igp_place}
use Rattle.prefix_atoms.specs.Nested.{StandsBefore}
use Rattle.shown_tables.specs.ShownEntries.{tables_by}
use Rattle.shown_tables.specs.TablesTexts.{HasOneTablesText, IsTablesText, SameTablesText, shown_text}
use Rattle.shown_tables.specs.declared.igp.Igp.{Igp}
use Rattle.shown_tables.specs.declared.igp.Igp.TheVariants.{Ospf, Isis}
use Rattle.shown_tables.specs.steps.Shown.{IsOfRouterBelow, IsOfRouter, IsOfShownTable, Shows}

-- ---- one list ----

-- the number of an entry's protocol, and of what stands before it
not_before_itself : (p : Block) → StandsBefore p p → ⊥
not_before_itself p (inl b) = omega arith
not_before_itself p (inr b) = let l = b.1 in omega (arith, l)

irreflexive : (x : ShownEntry) → IsShownBefore x x → ⊥
irreflexive x (by_router l) = omega arith
irreflexive x (by_igp _ l) = omega arith
irreflexive x (by_dest _ _ l) = not_before_itself x.dest l

blocks_transitive : (p q r : Block) → StandsBefore p q → StandsBefore q r → StandsBefore p r
blocks_transitive p q r (inl a) (inl b) = inl (omega arith)
blocks_transitive p q r (inl a) (inr b) = let e = b.0 in inl (omega (arith, e))
blocks_transitive p q r (inr a) (inl b) = let e = a.0 in inl (omega (arith, e))
blocks_transitive p q r (inr a) (inr b) = let l = a.1 in let m = b.1 in inr (a.0 ∙ b.0, omega (arith, l, m))

transitive : (x y z : ShownEntry) → IsShownBefore x y → IsShownBefore y z → IsShownBefore x z
transitive x y z (by_router a) (by_router b) = by_router (omega arith)
transitive x y z (by_router a) (by_igp e b) = by_router (omega arith)
transitive x y z (by_router a) (by_dest e f b) = by_router (omega arith)
transitive x y z (by_igp d a) (by_router b) = by_router (omega arith)
transitive x y z (by_igp d a) (by_igp e b) = by_igp (d ∙ e) (omega arith)
transitive x y z (by_igp d a) (by_dest e f b) = let g = ap igp_place f in by_igp (d ∙ e) (omega arith)
transitive x y z (by_dest c d a) (by_router b) = by_router (omega arith)
transitive x y z (by_dest c d a) (by_igp e b) = let g = ap igp_place d in by_igp (c ∙ e) (omega arith)
transitive x y z (by_dest c d a) (by_dest e f b) = by_dest (c ∙ e) (d ∙ f) (blocks_transitive x.dest y.dest z.dest a b)

-- lists in order with the same elements begin alike
same_first : (x : ShownEntry) (xs : List ShownEntry) (y : ShownEntry) (ys : List ShownEntry) → AllPairs IsShownBefore (x ∷ xs) →
    AllPairs IsShownBefore (y ∷ ys) → Contains (y ∷ ys) x → Contains (x ∷ xs) y → x ≡ y
same_first x xs y ys one other into back = elim (Contains-cases y ys x into) [
  | inl same ↦ sym same
  | inr behind ↦ elim (Contains-cases x xs y back) [
    | inl same ↦ same
    | inr after ↦
        absurd (irreflexive x (transitive x y x (pairs_first IsShownBefore x xs one y after)
        (pairs_first IsShownBefore y ys other x behind)))
  ]
]

in_rest : (x : ShownEntry) (xs : List ShownEntry) (y : ShownEntry) (ys : List ShownEntry) → AllPairs IsShownBefore (x ∷ xs) →
    x ≡ y →
    ((z : ShownEntry) → Contains (x ∷ xs) z → Contains (y ∷ ys) z) → (z : ShownEntry) → Contains xs z → Contains ys z
in_rest x xs y ys one begins over z inside =
    let before = pairs_first IsShownBefore x xs one z inside in
    elim (Contains-cases y ys z (over z (Rattle.net_model.proofs.Members.Contains-rest x xs z inside))) [
      | inl same ↦ absurd (irreflexive z (subst (λ w. IsShownBefore w z) (begins ∙ same) before))
      | inr rest ↦ rest
    ]

same_in_order : (xs ys : List ShownEntry) → AllPairs IsShownBefore xs → AllPairs IsShownBefore ys →
    ((z : ShownEntry) → Contains xs z → Contains ys z) → ((z : ShownEntry) → Contains ys z → Contains xs z) → xs ≡ ys
same_in_order [] [] one other into back = refl
same_in_order [] (y ∷ ys) one other into back = absurd (Contains-none y (back y (Contains-first y ys)))
same_in_order (x ∷ xs) [] one other into back = absurd (Contains-none x (into x (Contains-first x xs)))
same_in_order (x ∷ xs) (y ∷ ys) one other into back =
    let begins = same_first x xs y ys one other (into x (Contains-first x xs)) (back y (Contains-first y ys)) in
    let rest : xs ≡ ys = same_in_order xs ys (pairs_rest IsShownBefore x xs one) (pairs_rest IsShownBefore y ys other)
    (in_rest x xs y ys one begins into) (in_rest y ys x xs other (sym begins) back) in
    cc

pub one_text : (move : Migration) → HasOneTablesText move
one_text move text other one two =
    one.text_is
    ∙ ap (shown_text (names_of move.net)) (same_in_order one.all two.all one.in_order.ascending two.in_order.ascending
    (λ z inside. (two.in_order.exact z).1 ((one.in_order.exact z).0 inside)) (λ z inside. (one.in_order.exact z).1
    ((two.in_order.exact z).0 inside)))
    ∙ sym two.text_is

-- ---- the same tables ----

had_over : (move : Migration) (old new : Tables) → HaveSameTables move old new → (x : ShownEntry) (igp : Igp) → x.igp ≡ igp →
    x.router < length move.net →
    tables_by move igp x.router x.dest x.entry ↔ tables_by (retabled move old new) igp x.router x.dest x.entry
had_over move old new same x Ospf is within = same.same_old x.router x.dest x.entry within
had_over move old new same x Isis is within = same.same_new x.router x.dest x.entry within

pub same_text : (move : Migration) (old new : Tables) → SameTablesText move old new
same_text move old new text same one = record {
  all = one.all;
  in_order = record {
    exact = λ x. (
      λ inside. let h = (one.in_order.exact x).0 inside in record {
        router = h.router;
        entry =
            (had_over move old new same x x.igp refl h.router).0 h.entry;
      },
      λ h. (one.in_order.exact x).1 (record {
        router = h.router;
        entry =
            (had_over move old new same x x.igp refl h.router).1 h.entry;
      }),
    );
    ascending = one.in_order.ascending;
  };
  text_is = one.text_is;
}

-- ---- texts ----

shown_text-append : (names : List (List ℕ)) (one other : List ShownEntry) →
    shown_text names (one ++ other) ≡ shown_text names one ++ shown_text names other
shown_text-append names one other =
    ap text_of (map-append (shown_line names) one other) ∙ text_of-append (map (shown_line names) one) (map
    (shown_line names) other)

-- one entry more
pub shown_more : (names : List (List ℕ)) (done : List ShownEntry) (x : ShownEntry) (text before line longer : List ℕ) →
    before ≡ text ++ shown_text names done → line ≡ shown_line names x → longer ≡ (before ++ line) ++ 10 ∷ [] →
    longer ≡ text ++ shown_text names (done ++ x ∷ [])
shown_more names done x text before line longer before_is line_is longer_is =
    longer_is ∙ last_line before line (shown_line names x) line_is ∙ ap (λ t. t ++ shown_text names (x ∷ [])) before_is
    ∙ append_assoc text (shown_text names done) (shown_text names (x ∷ []))
    ∙ ap (λ t. text ++ t) (sym (shown_text-append names done (x ∷ [])))

-- what is shown before and after
shows_both : {names : List (List ℕ)} {P Q R : ShownEntry → Type 0} {text mid longer : List ℕ} → Shows names P text mid →
    Shows names Q mid longer →
    ((x y : ShownEntry) → P x → Q y → IsShownBefore x y) → ((x : ShownEntry) → R x → P x ⊎ Q x) → ((x : ShownEntry) → P x → R x) →
    ((x : ShownEntry) → Q x → R x) → Shows names R text longer
shows_both {names} {text} one other across parts left right = record {
  all = one.all ++ other.all;
  in_order = record {
    exact = λ x. (
      λ inside. ⊎_elim (λ l. left x ((one.in_order.exact x).0 l)) (λ r. right x ((other.in_order.exact x).0 r))
          (Contains-append_cases one.all other.all x inside),
      λ r. ⊎_elim (λ p. Contains-append_left one.all other.all x ((one.in_order.exact x).1 p))
          (λ q. Contains-append_right one.all other.all x ((other.in_order.exact x).1 q)) (parts x r),
    );
    ascending = pairs_append IsShownBefore one.all other.all one.in_order.ascending other.in_order.ascending
        (λ x y l r. across x y ((one.in_order.exact x).0 l) ((other.in_order.exact y).0 r));
  };
  longer_is = other.longer_is ∙ ap (λ t. t ++ shown_text names other.all) one.longer_is
      ∙ append_assoc text (shown_text names one.all) (shown_text names other.all)
      ∙ ap (λ t. text ++ t) (sym (shown_text-append names one.all other.all));
}

-- no entry
pub shows_none : (names : List (List ℕ)) (move : Migration) → Shows names (IsOfRouterBelow move 0) [] []
shows_none names move = record {
  all = [];
  in_order = record {
    exact = λ x. (λ inside. absurd (Contains-none x inside), λ h. let l = h.below in absurd (omega (arith, l)));
    ascending = pairs_none IsShownBefore;
  };
  longer_is = refl;
}

-- the entries of a router are those of its two tables
pub shows_router : {names : List (List ℕ)} (move : Migration) (u : ℕ) (old new : List
    (Block × Entry)) {text mid longer : List ℕ} →
    ((p : Block) (e : Entry) → move.old u p e ↔ Contains old (p, e)) → ((p : Block) (e : Entry) →
    move.new u p e ↔ Contains new (p, e)) →
    Shows names (IsOfShownTable u Ospf old) text mid → Shows names (IsOfShownTable u Isis new) mid longer →
    Shows names (IsOfRouter move u) text longer
shows_router {names} move u old new olds news one other =
    shows_both one other
    (λ x y l r. let a = ap igp_place l.igp_is in let b = ap igp_place r.igp_is in by_igp (l.router_is
    ∙ sym r.router_is) (omega (arith, a, b)))
    (λ x r. parts x x.igp refl r.router_is r.entry)
    (λ x l. record { router_is = l.router_is; entry = of_old x (sym l.igp_is) (sym l.router_is) l.among })
    (λ x r. record { router_is = r.router_is; entry = of_new x (sym r.igp_is) (sym r.router_is) r.among })
  where
    parts : (x : ShownEntry) (igp : Igp) → x.igp ≡ igp → x.router ≡ u → tables_by move igp x.router x.dest x.entry →
        IsOfShownTable u Ospf old x ⊎ IsOfShownTable u Isis new x
    parts x Ospf is at has =
        inl (record {
          router_is = at;
          igp_is = is;
          among = (olds x.dest x.entry).0 (subst
              (λ v. move.old v x.dest x.entry) at has);
        })
    parts x Isis is at has =
        inr (record {
          router_is = at;
          igp_is = is;
          among = (news x.dest x.entry).0 (subst
              (λ v. move.new v x.dest x.entry) at has);
        })

    of_old : (x : ShownEntry) → Ospf ≡ x.igp → u ≡ x.router → Contains old (x.dest, x.entry) →
        tables_by move x.igp x.router x.dest x.entry
    of_old x is at among =
        subst (λ igp. tables_by move igp x.router x.dest x.entry) is (subst (λ v. move.old v x.dest x.entry) at
        ((olds x.dest x.entry).1 among))

    of_new : (x : ShownEntry) → Isis ≡ x.igp → u ≡ x.router → Contains new (x.dest, x.entry) →
        tables_by move x.igp x.router x.dest x.entry
    of_new x is at among =
        subst (λ igp. tables_by move igp x.router x.dest x.entry) is (subst (λ v. move.new v x.dest x.entry) at
        ((news x.dest x.entry).1 among))

-- one router more
pub shows_more : {names : List (List ℕ)} (move : Migration) (u : ℕ) {text mid longer : List ℕ} →
    Shows names (IsOfRouterBelow move u) text mid →
    Shows names (IsOfRouter move u) mid longer → Shows names (IsOfRouterBelow move (u + 1)) text longer
shows_more move u one other =
    shows_both one other
    (λ x y l r. let a = l.below in let b = r.router_is in by_router (omega (arith, a, b)))
    (λ x r. ⊎_elim (λ l. inl (record { below = l; entry = r.entry })) (λ h. let b = r.below in inr (record {
      router_is = omega
          (arith, h, b);
      entry = r.entry;
    }))
    (cases_lt x.router u))
    (λ x l. let a = l.below in record { below = omega (arith, a); entry = l.entry })
    (λ x r. let a = r.router_is in record { below = omega (arith, a); entry = r.entry })

pub all_shown : (move : Migration) (text : List ℕ) → Shows (names_of move.net) (IsOfRouterBelow move (length move.net)) [] text →
    IsTablesText move text
all_shown move text one = record {
  all = one.all;
  in_order = record {
    exact = λ x. (
      λ inside. let h = (one.in_order.exact x).0 inside in record { router = h.below; entry = h.entry },
      λ h. (one.in_order.exact x).1 (record { below = h.router; entry = h.entry }),
    );
    ascending = one.in_order.ascending;
  };
  text_is = one.longer_is;
}
