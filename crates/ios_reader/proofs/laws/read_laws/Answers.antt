use Rattle.ios_reader.proofs.TextLaws.{one_reading, read_or_refused, one_refusal, some_answer}
use Rattle.ios_reader.proofs.laws.read_laws.Goals as goal

pub returns : goal.returns
returns c = record { one_reading = one_reading; read_or_refused = read_or_refused; one_refusal = one_refusal; some_answer = some_answer }
