use Rattle.isis_writer.proofs.PreparedBytes.{prepared_bytes}
use Rattle.isis_writer.proofs.PreparedReads.{prepared_text_reads, prepared_before_others, prepared_texts_read}
use Rattle.isis_writer.proofs.laws.prepared_laws.Goals as goal

pub returns-clause-prepared_text : goal.returns-clause-prepared_text
returns-clause-prepared_text c = prepared_text_reads

pub returns-clause-prepared_bytes : goal.returns-clause-prepared_bytes
returns-clause-prepared_bytes c = prepared_bytes

pub returns-clause-before_others : goal.returns-clause-before_others
returns-clause-before_others c = prepared_before_others

pub returns-clause-prepared_texts : goal.returns-clause-prepared_texts
returns-clause-prepared_texts c = prepared_texts_read
