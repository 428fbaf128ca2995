use Rattle.std.proofs.Common.{◌≡◌, take}
use Rattle.isis_writer.specs.PreparedConfigurations.{prepared_texts}
use Rattle.migrate_cli.proofs.prepare.prepared_texts.Given as goal

-- the first texts are prepared
abbrev pub invariant-loop-text : goal.invariant-loop-text
invariant-loop-text l = l.all.items ≡ prepared_texts l.net l.settled (take l.text-index l.texts)
