use Rattle.printed_lines.proofs.LineFacts.{lines_read_back}
use Rattle.printed_lines.proofs.WordFacts.{words_read_back, words_make_lines, line_reads_back, texts_read_back}
use Rattle.printed_lines.proofs.NumberFacts.{numbers_read_back, addresses_read_back}
use Rattle.printed_lines.proofs.laws.printed_laws.Goals as goal

pub returns : goal.returns
returns c = record {
  lines = lines_read_back;
  line = line_reads_back;
  words = words_read_back;
  lines_of_words = words_make_lines;
  texts = texts_read_back;
  numbers = numbers_read_back;
  addresses = addresses_read_back;
}
