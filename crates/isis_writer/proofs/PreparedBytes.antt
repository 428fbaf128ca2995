-- The bytes of a prepared text: those of the text up to its last `end` line, and the lines of its routers before `end` lines.
use Rattle.ios_reader.proofs.BlockPieces.{IsCutText, cut_text}
use Rattle.isis_writer.specs.Prepared.{PreparedBytesLaw, new_block}
use Rattle.isis_writer.proofs.PreparedPlaces.{prepared_is}

pub prepared_bytes : PreparedBytesLaw
prepared_bytes text net settled =
    let cut : IsCutText (new_block net settled) text = cut_text (new_block net settled) text in
    record { pieces = cut.pieces; rest = cut.rest; cut = cut.cut; written = prepared_is text net settled }
