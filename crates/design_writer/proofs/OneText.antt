-- A design by costs has one text: TOML is written for strings, whole numbers and tables of them in one way.
use Rattle.std.proofs.Common.{◌≡◌, ◌∙◌, ℕ, ℤ, pos, Bool, true, false, cond, codes, List, [], ◌∷◌, ◌++◌, refl, sym, ap, ap₂, true≢false}
use Rattle.net_model.specs.Configuration.{Configuration}
use Rattle.net_model.specs.Network.{Network}
use Rattle.net_model.specs.declared.config.Levels.{Levels}
use Rattle.ios_lines.specs.Words.{Word}
use Rattle.toml.specs.Data.{Data, Members, integer, member, no_members, string, table}
use Rattle.toml.specs.Tables.{Definition, Expression, array_table, key_value, std_table}
use Rattle.toml.specs.Text.{IsLineText, IsLinesText, IsValueText, expressions, header_of, is_section, needs_header, pairs, section, sections}
use Rattle.toml_parser.specs.Lexical.{line_feed}
use Rattle.toml_parser.specs.Strings.{Key}
use Rattle.toml_writer.specs.Text.{dotted_text}
use Rattle.design_file.proofs.MetricTables.{AllMembers}
use Rattle.design_writer.specs.CostTables.{cost_data, document_by_costs, level_text, router_data, with_interfaces, with_routers}
use Rattle.design_writer.specs.Laws.{OneCostDesignLaw}
use Rattle.design_writer.proofs.CostTables.{interfaces_hold, routers_hold}

-- ---- lines that can be written in one way ----

-- a value that is a string or a whole number
abbrev IsPlain : Data → Type 0
IsPlain (string word) = Unit {0}
IsPlain (integer number) = Unit {0}
IsPlain _ = ⊥

abbrev IsPlainDefinition : Definition → Type 0
IsPlainDefinition (key_value d) = IsPlain d
IsPlainDefinition _ = Unit {0}

abbrev ArePlain : List Expression → Type 0
ArePlain [] = Unit {0}
ArePlain (e ∷ es) = IsPlainDefinition e.1 × ArePlain es

one_value : (d : Data) (text other : List ℕ) → IsPlain d → IsValueText false d text → IsValueText false d other → text ≡ other
one_value (string word) text other plain one two = one ∙ sym two
one_value (integer number) text other plain one two = one.0 ∙ sym two.0
one_value _ text other plain one two = absurd plain

one_line : (started : Bool) (key : Key) (definition : Definition) (text other : List ℕ) → IsPlainDefinition definition →
    IsLineText false started key definition text → IsLineText false started key definition other → text ≡ other
one_line started key (key_value d) text other plain one two =
    one.1
    ∙ ap (λ (this : List ℕ). dotted_text key ++ (codes " = " ++ (this ++ line_feed ∷ []))) (one_value d one.0 two.0 plain one.2 two.2)
    ∙ sym two.1
one_line started key std_table text other plain one two = one ∙ sym two
one_line started key array_table text other plain one two = one ∙ sym two

one_lines : (started : Bool) (es : List Expression) (text other : List ℕ) → ArePlain es → IsLinesText false started es text →
    IsLinesText false started es other → text ≡ other
one_lines started [] text other plain one two = one ∙ sym two
one_lines started (e ∷ es) text other plain one two =
    one.2 ∙ ap₂ (λ (this rest : List ℕ). this ++ rest) (one_line started e.0 e.1 one.0 two.0 plain.0 one.3 two.3)
    (one_lines true es one.1 two.1 plain.1 one.4 two.4) ∙ sym two.2

-- ---- the lines of a design ----

plain_append : (es more : List Expression) → ArePlain es → ArePlain more → ArePlain (es ++ more)
plain_append [] more plain others = others
plain_append (e ∷ es) more plain others = (plain.0, plain_append es more plain.1 others)

plain_header : (key : Key) (ms : Members) → ArePlain (header_of key ms)
plain_header key ms = by (needs_header ms)
  where
    by : (b : Bool) → ArePlain (cond b ((key, std_table) ∷ []) [])
    by true = (tt, tt)
    by false = tt

-- the lines of a value are plain, wherever it stands
record HasPlainLines (d : Data) : Type 0 where
  pair : is_section d ≡ false → IsPlain d
  lines : (key : Key) → ArePlain (section key d)

abbrev HavePlainLines : Members → Type 0
HavePlainLines ms = AllMembers (λ _ d. HasPlainLines d) ms

plain_pairs : (ms : Members) → HavePlainLines ms → ArePlain (pairs ms)
plain_pairs no_members all = tt
plain_pairs (member k d ms) all = by (is_section d) refl (plain_pairs ms all.1)
  where
    by : (b : Bool) → is_section d ≡ b → ArePlain (pairs ms) → ArePlain (cond b (pairs ms) ((([], k), key_value d) ∷ pairs ms))
    by true is rest = rest
    by false is rest = (all.0.pair is, rest)

plain_sections : (path : List (List ℕ)) (ms : Members) → HavePlainLines ms → ArePlain (sections path ms)
plain_sections path no_members all = tt
plain_sections path (member k d ms) all =
    plain_append (section (path, k) d) (sections path ms) (all.0.lines (path, k)) (plain_sections path ms all.1)

of_string : (word : Word) → HasPlainLines (string word)
of_string word = record { pair = λ _. tt; lines = λ _. tt }

of_integer : (number : ℤ) → HasPlainLines (integer number)
of_integer number = record { pair = λ _. tt; lines = λ _. tt }

of_table : (ms : Members) → HavePlainLines ms → HasPlainLines (table ms)
of_table ms all = record {
  pair = λ is. absurd (true≢false is);
  lines = λ key. plain_append (header_of key ms) (pairs ms ++ sections (key.0 ++ key.1 ∷ []) ms) (plain_header key ms)
      (plain_append (pairs ms) (sections (key.0 ++ key.1 ∷ []) ms) (plain_pairs ms all) (plain_sections (key.0 ++ key.1 ∷ []) ms all));
}

of_cost : (cost : ℕ) → HasPlainLines (cost_data cost)
of_cost cost = of_table (member (codes "metric") (integer (pos cost)) no_members) (of_integer (pos cost), tt)

of_router : (c : Configuration) → HasPlainLines (router_data c)
of_router c =
    let interfaces : Members = with_interfaces no_members c.interfaces in
    let all : HavePlainLines interfaces = interfaces_hold (λ _ d. HasPlainLines d) c.interfaces no_members (λ i _ _. of_cost i.cost) tt in
    of_table (member (codes "interfaces") (table interfaces) no_members) (of_table interfaces all, tt)

of_document : (area : Word) (levels : Levels) (net : Network) → HavePlainLines (document_by_costs area levels net)
of_document area levels net = (
  of_string area,
  (
    of_string (level_text levels),
    (
      of_table (with_routers no_members net)
          (routers_hold (λ _ d. HasPlainLines d) net no_members (λ c _. of_router c) tt),
      tt,
    ),
  ),
)

pub one_text : OneCostDesignLaw
one_text area levels net text other one two =
    let document : Members = document_by_costs area levels net in
    let plain = plain_append (pairs document) (sections [] document) (plain_pairs document (of_document area levels net))
    (plain_sections [] document (of_document area levels net)) in
    one_lines false (expressions document) text other plain one.written two.written
