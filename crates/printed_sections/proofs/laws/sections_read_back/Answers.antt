use Rattle.printed_sections.proofs.SectionFacts.{section_fits, section_says}
use Rattle.printed_sections.proofs.laws.sections_read_back.Goals as goal

pub returns : goal.returns
returns c head bodies fine_head not_end fine = record {
  fits = section_fits head bodies fine_head not_end fine;
  says = section_says head bodies fine_head not_end fine;
}
