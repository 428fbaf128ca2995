use Rattle.std.proofs.lemmas.Grind.{common_steps}
use Rattle.std.proofs.Common.{◌≡◌, ℕ, ◌<◌, List, [], length, get_or, take, arith, sym, ◌∙◌, subst}
use Rattle.std.proofs.lemmas.List.{take_all, length-map, get_or-map}
use Rattle.std.proofs.lemmas.Result.{MatchResult-at_ok, MatchResult-at_err, IfOk-at_ok}
use Rattle.net_addr.specs.Spans.{bytes_of}
use Rattle.net_addr.specs.declared.line.Line.{Line}
use Rattle.igp_theory.specs.Migrations.{Migration}
use Rattle.plan_theory.specs.declared.items.Items.{Items}
use Rattle.refutation_check.specs.declared.reading.Reading.{Reading}
use Rattle.refutation_check.specs.steps.Judged.{started_of}
use Rattle.refutation_check.specs.steps.Reading.{HasReadLines, TakesLine, IsNotTaken, line_bytes}
use Rattle.refutation_check.proofs.ReadingFacts.{read_more, read_long, wrong_at, branches-few, leaves-few, open-few}
use Rattle.refutation_check.proofs.judge.read_lines.Goals as goal

-- the line that is read where there is none
abbrev no_line : Line
no_line = record { number = 0; indent = 0; span = record { start = 0; stop = 0 } }

module _ (text : List ℕ) (entries : List Line) (i : ℕ) (within : i < length entries) where
  line_in : i < length (line_bytes text entries)
  line_in = omega (arith, within, length-map entries (λ (line : Line). bytes_of text line.span))

  -- so many nodes were read before it
  read_many : (items : Items) (move : Migration) (reading : Reading) (read : HasReadLines items move (take i (line_bytes text entries)) reading) →
      length read.nodes ≡ i
  read_many items move reading read = read_long items move (line_bytes text entries) reading i (omega (arith, line_in)) read

  -- what is told of the bytes of a line is told of the line at its place
  told_at : (P : List ℕ → Type 0) → P (bytes_of text (get_or entries i no_line).span) → P (get_or (line_bytes text entries) i [])
  told_at P told = subst P (sym (get_or-map (λ (line : Line). bytes_of text line.span) entries i no_line [] within)) told

pub take_line-requires-clause-branches : goal.take_line-requires-clause-branches
take_line-requires-clause-branches g c =
    let read = c.loop-place.invariant.0 in
    let many = read_many c.args.text.now c.args.entries.now c.loop-place.place c.loop-place-test.true c.args.asked.now.items
    (started_of g.O.RouteSource.table g.N.RouteSource.table c.args.asked.now.mixed.now c.args.asked.now.start.now) c.loop-place.reading read in
    omega (arith, read.counted.branches, branches-few read.nodes, many, c.requires.few, c.loop-place-test.true)

pub take_line-requires-clause-leaves : goal.take_line-requires-clause-leaves
take_line-requires-clause-leaves g c =
    let read = c.loop-place.invariant.0 in
    let many = read_many c.args.text.now c.args.entries.now c.loop-place.place c.loop-place-test.true c.args.asked.now.items
    (started_of g.O.RouteSource.table g.N.RouteSource.table c.args.asked.now.mixed.now c.args.asked.now.start.now) c.loop-place.reading read in
    omega (arith, read.counted.leaves, leaves-few read.nodes, many, c.requires.few, c.loop-place-test.true)

pub take_line-requires-clause-unvisited : goal.take_line-requires-clause-unvisited
take_line-requires-clause-unvisited g c =
    let read = c.loop-place.invariant.0 in
    let many = read_many c.args.text.now c.args.entries.now c.loop-place.place c.loop-place-test.true c.args.asked.now.items
    (started_of g.O.RouteSource.table g.N.RouteSource.table c.args.asked.now.mixed.now c.args.asked.now.start.now) c.loop-place.reading read in
    omega (arith, read.counted.unvisited, open-few read.nodes, many, c.requires.few, c.loop-place-test.true)

pub returns-in-Err-clause-read : goal.returns-in-Err-clause-read
returns-in-Err-clause-read g c =
    let move : Migration = started_of g.O.RouteSource.table g.N.RouteSource.table c.args.asked.now.mixed.now c.args.asked.now.start.now in
    let items = c.args.asked.now.items in
    let text = c.args.text.now in
    let entries = c.args.entries.now in
    let i = c.loop-place.place in
    let before = c.loop-place.reading in
    let line = bytes_of text (get_or entries i no_line).span in
    wrong_at items move (line_bytes text entries) i before c.in-Err.kind (line_in text entries i c.loop-place-test.true) c.loop-place.invariant.0
    (told_at text entries i c.loop-place-test.true (λ (l : List ℕ). IsNotTaken items move before.walk.left l c.in-Err.kind)
    (MatchResult-at_err (TakesLine items move line before) (IsNotTaken items move before.walk.left line) c.in-Err.kind c.in-Err.is
    c.in_ok-after.ensures.taken))

pub loop-place-preserved : goal.loop-place-preserved
loop-place-preserved g c =
    let move : Migration = started_of g.O.RouteSource.table g.N.RouteSource.table c.args.asked.now.mixed.now c.args.asked.now.start.now in
    let items = c.args.asked.now.items in
    let text = c.args.text.now in
    let entries = c.args.entries.now in
    let i = c.loop-place.place in
    let before = c.loop-place.reading in
    let line = bytes_of text (get_or entries i no_line).span in (
      read_more items move (line_bytes text entries) i before c.in-Ok.after (line_in text entries i c.loop-place-test.true) c.loop-place.invariant.0
          (told_at text entries i c.loop-place-test.true (λ (l : List ℕ). TakesLine items move l before c.in-Ok.after)
          (MatchResult-at_ok (TakesLine items move line before) (IsNotTaken items move before.walk.left line) c.in-Ok.after c.in-Ok.is
          c.in_ok-after.ensures.taken)),
      IfOk-at_ok (λ (after : Reading). after.walk.routers ≡ before.walk.routers) c.in-Ok.is c.in_ok-after.ensures.routers ∙ c.loop-place.invariant.1,
    )

pub returns-clause-read : goal.returns-clause-read
returns-clause-read g c = grind (arith, common_steps, length-map, take_all)
