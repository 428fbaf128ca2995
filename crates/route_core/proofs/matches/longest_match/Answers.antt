use Rattle.std.proofs.Common.{◌≡◌, ℕ, ◌+◌, ◌++◌, ◌∷◌, [], List, length, arith, get_or, sym, ap, ◌∙◌, subst}
use Rattle.std.proofs.lemmas.List.{length_push, length-map, map-append, get_or_default}
use Rattle.net_addr.specs.Addresses.{Block, default_prefix}
use Rattle.net_addr.specs.LongestMatches.{IsMatch}
use Rattle.route_core.specs.steps.Matches.{AreBlocks}
use Rattle.route_core.specs.Rows.{KeptTable, Row, kept_in, row_prefix, row_prefixes, rows_below}
use Rattle.route_core.proofs.MatchSteps.{found_more, blocks_more}
use Rattle.route_core.proofs.RowLaws.{no_number, rows_with_number, rows_without_number, some_number}
use Rattle.route_core.proofs.matches.longest_match.Goals as goal
use Rattle.route_core.proofs.matches.longest_match.Goals.{then-is_some, else-is_some}

pub loop-place-preserved : goal.loop-place-preserved
loop-place-preserved c =
    let kept : KeptTable = kept_in c.args.parts in
    let i : ℕ = c.loop-place.place in
    let a : ℕ = c.args.a in
    let prefix : Row → Block = row_prefix c.args.parts.prefixes.now in
    let rows : List Row = rows_below kept i in
    let before : List Block = row_prefixes c.args.parts.prefixes.now rows in
    elim c.if-is_some.branch [
      | then-is_some w ↦
          let one = some_number c.number.result (sym c.is_some.ensures ∙ w.if-is_some.true) in
          let row : Row = record { place = i; number = one.0 } in
          let next : Block = get_or c.args.parts.prefixes.now i w.index-parts-place.result in
          let read : prefix row ≡ next =
          get_or_default c.args.parts.prefixes.now i default_prefix w.index-parts-place.result c.loop-place-test.true in
          let grown : rows_below kept (i + 1) ≡ rows ++ row ∷ [] = rows_with_number kept i one.0 (sym c.number.ensures ∙ one.1) in
          let more : row_prefixes c.args.parts.prefixes.now (rows_below kept (i + 1)) ≡ before ++ next ∷ [] =
          ap (row_prefixes c.args.parts.prefixes.now) grown ∙ map-append prefix rows (row ∷ []) ∙ ap (λ (p : Block). before ++ p ∷ []) read in
          let at : c.loop-place.before ≡ length before = c.loop-place.invariant.before ∙ sym (length-map rows prefix) in
          let b = c.loop-place.best in
          let found = w.longer-best.result in
          let before_is : c.if-is_some.before ≡ length (rows_below kept (i + 1)) =
          let long = length_push rows row in let same = ap length grown in omega (arith, w.before-is, c.loop-place.invariant.before) in
          record {
            best = subst (λ (s : List Block). IsMatch s a c.if-is_some.best) (sym more) (subst (IsMatch (before ++ next ∷ []) a) (sym w.best-is)
                (found_more before c.loop-place.before a b found next at c.loop-place.invariant.best w.longer-best.ensures));
            blocks = subst (λ (s : List Block). AreBlocks s a) (sym more)
                (blocks_more before c.loop-place.before a b found next c.loop-place.invariant.blocks w.longer-best.ensures);
            before = before_is;
            few = omega (arith, w.before-is, c.loop-place.invariant.few);
          }
      | else-is_some w ↦
          let none = no_number c.number.result (sym c.is_some.ensures ∙ w.if-is_some.false) in
          let same : rows_below kept (i + 1) ≡ rows = rows_without_number kept i (sym c.number.ensures ∙ none) in
          record {
            best = subst (λ (l : List Row). IsMatch (row_prefixes c.args.parts.prefixes.now l) a c.if-is_some.best) (sym same)
                (subst (IsMatch before a) (sym w.best-is) c.loop-place.invariant.best);
            blocks = subst (λ (l : List Row). AreBlocks (row_prefixes c.args.parts.prefixes.now l) a) (sym same) c.loop-place.invariant.blocks;
            before = w.before-is ∙ c.loop-place.invariant.before ∙ ap length (sym same);
            few = omega (arith, w.before-is, c.loop-place.invariant.few);
          }
    ]
