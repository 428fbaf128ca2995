use Rattle.std.proofs.lemmas.Grind.{common_steps}
use Rattle.std.proofs.Common.{◌≡◌, ◌+◌, [], take, drop, map, get_or, false, subst, arith}
use Rattle.migrate_cli.specs.steps.FilesRead.{file_of}
use Rattle.migrate_cli.specs.declared.files.Wanted.{Wanted}
use Rattle.migrate_cli.specs.steps.Stops.{StopsAt}
use Rattle.migrate_cli.proofs.StopFacts.{stops_among, StopsAt-same, read_more, within_more, counted_more, asked_more, element, map_around, map_take_more, stop_reads}
use Rattle.migrate_cli.proofs.reading.read_texts.Goals as goal

pub returns-in-Err-clause-read : goal.returns-in-Err-clause-read
returns-in-Err-clause-read g c =
    let content = g.F.Files.content c.args.files.now in
    let all = c.args.wanted.now in
    let i = c.loop-file.file-index in
    let nothing : Wanted = record { name = record { ref_ptr = (0, 0); now = [] }; most = 0; counts = false } in
    let item = get_or all i nothing in
    let at : item ≡ get_or all i item = element all i nothing item (omega arith) in
    let file = file_of item in
    let held = c.loop-file.invariant in
    let around = map_around file_of all i item (omega arith) at in
    let stops = StopsAt-same (g.F.Files.content c.loop-file.files) content file c.loop-file.texts.counted c.in-Err.stop (held.contents_stay file.name)
    c.in-Err.ensures.stop in
    stops_among content (map file_of all) (map file_of (take i all)) (map file_of (drop (i + 1) all)) c.loop-file.texts.all file
    (g.F.Files.asked c.args.files.now) (g.F.Files.asked c.loop-file.files) (g.F.Files.asked c.read_next.new.files) c.in-Err.stop around
    held.read held.within held.asked
    (subst (λ n. StopsAt content file n c.in-Err.stop) held.counted stops) c.in-Err.ensures.asked

pub returns-in-Err-clause-failed : goal.returns-in-Err-clause-failed
returns-in-Err-clause-failed g c = grind (arith, common_steps, stop_reads)

pub loop-file-preserved : goal.loop-file-preserved
loop-file-preserved g c = grind (arith, common_steps, asked_more, counted_more, element, map_take_more, read_more, within_more)
