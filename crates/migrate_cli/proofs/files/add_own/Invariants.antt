use Rattle.std.proofs.Common.{◌≡◌, ◌++◌, ℕ, List, map, take}
use Rattle.std.specs.Borrow.{Bor}
use Rattle.migrate_cli.specs.CommandFiles.{own_file}
use Rattle.migrate_cli.specs.steps.FilesRead.{file_of}
use Rattle.migrate_cli.proofs.files.add_own.Given as goal

-- the first own files are added
abbrev pub invariant-loop-name : goal.invariant-loop-name
invariant-loop-name l =
    map file_of l.files.items ≡ map file_of l.initial.files.items ++ map (own_file l.kind)
    (map (λ (name : Bor (List ℕ)). name.now) (take l.name-index l.names))
