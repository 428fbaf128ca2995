-- What the lines of the two processes say in the end: of each form the last one.
use Rattle.std.specs.Prelude.{List, Option}
use Rattle.ios_lines.specs.Lookups.{later, last_of}
use Rattle.ios_reader.specs.Routers.{passive_default_said, reference_said, ospf_distance_said, rfc1583_said, levels_said, router_metric_said}
use Rattle.ios_reader.specs.Routers.{isis_distance_said, leak_said}
use Rattle.ios_lines.specs.declared.ospf_line.OspfStatement.{OspfStatement}
use Rattle.ios_lines.specs.declared.isis_line.IsisLine.{IsisLine}
use Rattle.ios_lines.specs.declared.isis_line.IsisLine.TheVariants.{Net}
use Rattle.ios_lines.specs.declared.isis_line.IsisStatement.{IsisStatement}
use Rattle.ios_lines.specs.declared.title.Title.{Title}
use Rattle.ios_reader.specs.declared.router.OspfFacts.{OspfFacts}
use Rattle.ios_reader.specs.declared.router.IsisFacts.{IsisFacts}
use Rattle.ios_reader.specs.declared.router.ProcessFacts.{ProcessFacts}

-- of each form the last line of an OSPF process
abbrev pub ospf_facts_of : List OspfStatement → OspfFacts
ospf_facts_of lines = record {
  passive_default = last_of (λ (s : OspfStatement). passive_default_said s.says) lines;
  reference = last_of (λ (s : OspfStatement). reference_said s.says) lines;
  distance = last_of (λ (s : OspfStatement). ospf_distance_said s.says) lines;
  rfc1583 = last_of (λ (s : OspfStatement). rfc1583_said s.says) lines;
}

-- the same, with one more line
abbrev pub ospf_noted : OspfFacts → OspfStatement → OspfFacts
ospf_noted facts s = record {
  passive_default = later facts.passive_default (passive_default_said s.says);
  reference = later facts.reference (reference_said s.says);
  distance = later facts.distance (ospf_distance_said s.says);
  rfc1583 = later facts.rfc1583 (rfc1583_said s.says);
}

-- of each form the last line of an IS-IS process
abbrev pub isis_facts_of : List IsisStatement → IsisFacts
isis_facts_of lines = record {
  levels = last_of (λ (s : IsisStatement). levels_said s.says) lines;
  metric = last_of (λ (s : IsisStatement). router_metric_said s.says) lines;
  distance = last_of (λ (s : IsisStatement). isis_distance_said s.says) lines;
  leak = last_of (λ (s : IsisStatement). leak_said s.says) lines;
}

-- the same, with one more line
abbrev pub isis_noted : IsisFacts → IsisStatement → IsisFacts
isis_noted facts s = record {
  levels = later facts.levels (levels_said s.says);
  metric = later facts.metric (router_metric_said s.says);
  distance = later facts.distance (isis_distance_said s.says);
  leak = later facts.leak (leak_said s.says);
}

-- of each form the last line of either process
abbrev pub process_facts_of : List OspfStatement → List IsisStatement → ProcessFacts
process_facts_of ospf isis = record { ospf = ospf_facts_of ospf; isis = isis_facts_of isis }

-- the title after one more line
abbrev pub title_after : Option Title → IsisLine → Option Title
title_after before (Net title) = title
title_after before _ = before
