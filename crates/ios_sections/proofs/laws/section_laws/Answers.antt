use Rattle.ios_sections.proofs.LawFacts.{open_banner, outside, end_lines, first_named}
use Rattle.ios_sections.proofs.laws.section_laws.Goals as goal

pub returns : goal.returns
returns c = record { open_banner = open_banner; outside_banners = outside; end_lines = end_lines; first_mention = first_named }
