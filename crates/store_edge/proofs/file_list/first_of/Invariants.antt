use Rattle.std.proofs.Common.{◌≡◌, drop}
use Rattle.store_edge.specs.Files.{file_bytes}
use Rattle.store_edge.proofs.file_list.first_of.Given as goal

-- what is left of the list has the bytes that the list has
abbrev pub invariant-loop-file : goal.invariant-loop-file
invariant-loop-file l = file_bytes (drop l.file-index l.files) l.name ≡ file_bytes l.files l.name
