use Rattle.std.proofs.Common.{◌≡◌, ℕ, List, ◌++◌, map, take}
use Rattle.migrate_cli.specs.steps.FilesRead.{file_of}
use Rattle.migrate_cli.specs.Reading.{AreRead, AreWithin, file_names, total_of}
use Rattle.migrate_cli.proofs.reading.read_texts.Given as goal

-- the first files are read, and are within the limits
abbrev pub invariant-loop-file : goal.invariant-loop-file
invariant-loop-file g l =
    let files = map file_of (take l.file-index l.fn.wanted) in
    record {
      read : AreRead (g.F.Files.content l.fn.files) files l.texts.all;
      within : AreWithin files l.texts.all;
      counted : l.texts.counted ≡ total_of files l.texts.all;
      asked : g.F.Files.asked l.files ≡ g.F.Files.asked l.fn.files ++ file_names files;
      contents_stay : (other : List ℕ) → g.F.Files.content l.files other ≡ g.F.Files.content l.fn.files other;
      faults_stand : g.F.Files.faults l.files ≡ g.F.Files.faults l.fn.files;
      last_stands : g.F.Files.failed_at l.files ≡ g.F.Files.failed_at l.fn.files;
    }
