use Rattle.std.proofs.Common.{◌≡◌, ℕ, List, [], ◌∷◌, ◌++◌, length, sym, ap, subst, ◌∙◌, append-nil, length-append, arith}
use Rattle.net_addr.specs.Lines.{line_texts}
use Rattle.net_model.specs.Network.{Network}
use Rattle.order_core.specs.Rankings.{IsRanking}
use Rattle.change_orders.specs.TwoFaults.{IsLeastTwoFault, two_header}
use Rattle.change_orders.specs.TwoFiles.{AreTwoWaves, NamesTwo}
use Rattle.change_orders.specs.declared.kind.TwoKind.TheVariants.{Missing}
use Rattle.change_orders.specs.steps.Found.{LacksSome}
use Rattle.change_orders.specs.steps.Standing.{IsReadTo, TwoStanding, standing}
use Rattle.change_orders.proofs.ReadTexts.{few_lines, least_here, least_missing, names_two, read_more, read_start, two_waves}
use Rattle.change_orders.proofs.reading.read_two.Goals as goal

pub loop-line-init : goal.loop-line-init
loop-line-init c =
    read_start c.args.net.now c.args.text.now c.begins_file.new.lines c.routers.result (standing c.in_ok-read.read)
    (sym c.new-lines.ensures ∙ c.if-not-begins_file.ensures)
    c.routers.ensures.count c.in_ok-read.ensures.ranks c.in_ok-read.ensures.waves c.in_ok-read.ensures.chained

pub returns-in-Some-2-clause-err : goal.returns-in-Some-2-clause-err
returns-in-Some-2-clause-err c =
    let read = subst (λ (l : List (List ℕ)). IsReadTo c.args.net.now c.args.text.now l c.loop-line.number (standing c.loop-line.read)) c.in-Some.ensures.some
    c.loop-line.invariant in
    subst (λ (n : ℕ). IsLeastTwoFault c.args.net.now c.args.text.now n c.in-Some-2.kind) (sym read.number_is)
    (least_here c.args.net.now c.args.text.now read.lines (standing c.loop-line.read) read.led c.in-Some.line.now c.next_line.new.self read.whole
    c.in-Some-2.kind (rw c.in-Some-2.is at (c.in_ok-kind.ensures.taken read.lines read.led)))

pub overflow_add-number : goal.overflow_add-number
overflow_add-number c =
    let read = subst (λ (l : List (List ℕ)). IsReadTo c.args.net.now c.args.text.now l c.loop-line.number (standing c.loop-line.read)) c.in-Some.ensures.some
    c.loop-line.invariant in
    omega (
      arith,
      read.number_is,
      ap length read.whole,
      length-append read.lines (c.in-Some.line.now ∷ c.next_line.new.self),
      few_lines c.args.text.now,
      c.requires.short,
    )

pub loop-line-preserved : goal.loop-line-preserved
loop-line-preserved c =
    let read = subst (λ (l : List (List ℕ)). IsReadTo c.args.net.now c.args.text.now l c.loop-line.number (standing c.loop-line.read)) c.in-Some.ensures.some
    c.loop-line.invariant in
    read_more c.args.net.now c.args.text.now c.in-Some.line.now c.next_line.new.self c.loop-line.number (standing c.loop-line.read)
    (standing c.take_line.new.read) read (rw c.in_default-2.is at (c.in_ok-kind.ensures.taken read.lines read.led)) c.take_line.ensures.waves

-- no line is left
whole : (net : Network) (text : List ℕ) (left : List (List ℕ)) (number : ℕ) (s : TwoStanding) (r : IsReadTo net text left number s) → left ≡ [] →
    line_texts text ≡ two_header ∷ r.lines
whole net text left number s r none = r.whole ∙ ap (λ (l : List (List ℕ)). two_header ∷ (r.lines ++ l)) none ∙ ap (λ l. two_header ∷ l) (append-nil r.lines)

pub returns-in_default-3-clause-err : goal.returns-in_default-3-clause-err
returns-in_default-3-clause-err c =
    let read = c.loop-line.invariant in
    subst (λ (n : ℕ). IsLeastTwoFault c.args.net.now c.args.text.now n Missing) (sym read.number_is)
    (least_missing c.args.net.now c.args.text.now read.lines (standing c.loop-line.read) read.led
    (whole c.args.net.now c.args.text.now c.loop-line.lines c.loop-line.number (standing c.loop-line.read) read c.in_default.ensures.none)
    (subst LacksSome c.as_slice.ensures.value (rw c.in_default-3.is at c.in_ok-ranks.ensures)))

pub from_ranks-requires-clause-ranking : goal.from_ranks-requires-clause-ranking
from_ranks-requires-clause-ranking c =
    let read = c.loop-line.invariant in
    let waves = two_waves c.args.net.now c.args.text.now read.lines (standing c.loop-line.read) read.led
    (whole c.args.net.now c.args.text.now c.loop-line.lines c.loop-line.number (standing c.loop-line.read) read c.in_default.ensures.none)
    c.in-Some-3.ranks.items (sym c.as_slice.ensures.value ∙ rw c.in-Some-3.is at c.in_ok-ranks.ensures) in
    subst (λ (l : List ℕ). IsRanking (length l) l) (sym c.as_slice-2.ensures.value)
    (subst (λ (n : ℕ). IsRanking n c.in-Some-3.ranks.items) (sym waves.ranking.each) waves.ranking)

pub returns-clause-ok : goal.returns-clause-ok
returns-clause-ok c =
    let read = c.loop-line.invariant in
    subst (NamesTwo c.args.net.now c.args.text.now) (sym (c.in_ok-from_ranks.ensures ∙ c.as_slice-2.ensures.value))
    (names_two c.args.net.now c.args.text.now read.lines (standing c.loop-line.read) read.led
    (whole c.args.net.now c.args.text.now c.loop-line.lines c.loop-line.number (standing c.loop-line.read) read c.in_default.ensures.none)
    c.in-Some-3.ranks.items (sym c.as_slice.ensures.value ∙ rw c.in-Some-3.is at c.in_ok-ranks.ensures))

pub returns-clause-in_turn : goal.returns-clause-in_turn
returns-clause-in_turn c =
    let read = c.loop-line.invariant in
    subst (AreTwoWaves (length c.args.net.now)) (sym (c.in_ok-from_ranks.ensures ∙ c.as_slice-2.ensures.value))
    (two_waves c.args.net.now c.args.text.now read.lines (standing c.loop-line.read) read.led
    (whole c.args.net.now c.args.text.now c.loop-line.lines c.loop-line.number (standing c.loop-line.read) read c.in_default.ensures.none)
    c.in-Some-3.ranks.items (sym c.as_slice.ensures.value ∙ rw c.in-Some-3.is at c.in_ok-ranks.ensures))
