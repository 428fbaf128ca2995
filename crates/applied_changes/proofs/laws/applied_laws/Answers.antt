use Rattle.ios_reader.proofs.BlockPieces.{IsCutText, cut_text}
use Rattle.applied_changes.specs.AppliedTexts.{block_in}
use Rattle.applied_changes.proofs.AppliedFacts.{applied_text_reads}
use Rattle.applied_changes.proofs.MadeFacts.{made_lines}
use Rattle.applied_changes.proofs.laws.applied_laws.Goals as goal

pub returns-clause-applied_text : goal.returns-clause-applied_text
returns-clause-applied_text c = applied_text_reads

pub returns-clause-applied_bytes : goal.returns-clause-applied_bytes
returns-clause-applied_bytes c phases text =
    let cut : IsCutText (block_in phases) text = cut_text (block_in phases) text in
    record { pieces = cut.pieces; rest = cut.rest; cut = cut.cut; written = cut.whole }

pub returns-clause-made_lines : goal.returns-clause-made_lines
returns-clause-made_lines c = made_lines
