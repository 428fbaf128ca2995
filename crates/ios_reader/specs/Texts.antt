-- What reading a text answers, over its bytes.
use Rattle.std.specs.Prelude.{ℕ, List}
use Rattle.net_model.specs.Configuration.{Configuration}
use Rattle.ios_sections.specs.TextLines.{lines_in}
use Rattle.ios_lines.specs.FaultOrder.{fault_at}
use Rattle.ios_reader.specs.Faults.{faults_in}
use Rattle.ios_reader.specs.Configurations.{IsLeastFault, AreConfigurations}
use Rattle.ios_lines.specs.declared.kind.ReadKind.{ReadKind}
use Rattle.ios_reader.specs.declared.refusal.ReadRefusal.{ReadRefusal}
use Rattle.ios_reader.specs.declared.refusal.ReadRefusal.TheVariants.{Bad, OutOfMemory}

-- the text has no faulty line, and its configurations are these
abbrev pub ReadsText : List ℕ → List Configuration → Type 0
ReadsText text configurations = AreConfigurations (lines_in text) configurations

-- this is the first faulty line of the text, and this the least kind on it
abbrev pub IsRefusedText : List ℕ → ℕ → ReadKind → Type 0
IsRefusedText text line kind = IsLeastFault (faults_in (lines_in text)) (fault_at line kind)

-- why the text isn't read; want of memory may be the answer to any text
abbrev pub RefusesConfiguration : List ℕ → ReadRefusal → Type 0
RefusesConfiguration text (Bad line kind) = IsRefusedText text line kind
RefusesConfiguration text OutOfMemory = Unit {0}
