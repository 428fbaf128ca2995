use Rattle.std.proofs.Common.{◌≡◌, ◌++◌, ℕ, List, map, take}
use Rattle.std.specs.Borrow.{Bor}
use Rattle.migrate_cli.specs.CommandFiles.{config_file, own_files}
use Rattle.migrate_cli.specs.steps.FilesRead.{file_of}
use Rattle.migrate_cli.proofs.files.files_of.Given as goal

-- the own files and the first configurations
abbrev pub invariant-loop-name : goal.invariant-loop-name
invariant-loop-name l =
    map file_of l.files.items ≡ own_files l.fn.command ++ map config_file
    (map (λ (name : Bor (List ℕ)). name.now) (take l.name-index l.name-items))
