use Rattle.ios_reader.proofs.InsertedFacts.{some_configuration, closed_text, joined_texts, joined_blocks, block_by_block, inserted_lines}
use Rattle.ios_reader.proofs.inserted.inserted_laws.Goals as goal

pub returns : goal.returns
returns c = record {
  some_configuration = some_configuration;
  closed_text = closed_text;
  joined_texts = joined_texts;
  joined_blocks
      = joined_blocks;
  block_sections = block_by_block;
  inserted_lines = inserted_lines;
}
