-- How a text is read as TOML.
use Rattle.std.specs.Prelude.{◌≡◌, List, ℕ, Result, Ok, Err, codes}
use Rattle.toml.specs.Data.{Members}
use Rattle.toml.specs.View.{table_view}
use Rattle.std.specs.BTreeMap.{BTreeMap}
use Rattle.std.specs.Prelude.{String}
use Rattle.std.specs.declared.alloc.Global.{Global}
use Rattle.toml.specs.declared.value.Value.{Value}
use Rattle.design_file.specs.Documents.{IsDocument}
use Rattle.design_file.specs.Faults.{fault}
use Rattle.design_file.specs.declared.refusal.DesignKind.TheVariants.{NotToml}
use Rattle.design_file.specs.declared.refusal.DesignRefusal.{DesignRefusal}
use Rattle.design_file.specs.declared.refusal.DesignRefusal.TheVariants.{Bad, OutOfMemory}

-- the refusal of a text that isn't TOML, or want of memory
abbrev pub IsNotToml : DesignRefusal → Type 0
IsNotToml (Bad kind path) = fault NotToml (codes "-") ≡ fault kind path
IsNotToml OutOfMemory = Unit {0}

-- why there is no document
abbrev pub IsNoDocument : List ℕ → DesignRefusal → Type 0
IsNoDocument text (Bad kind path) = ((document : Members) → IsDocument text document → ⊥) × IsNotToml (Bad kind path)
IsNoDocument text OutOfMemory = Unit {0}

-- the document of a text, or why there is none
abbrev pub IsParsed : List ℕ → Result (BTreeMap (String Global) Value) DesignRefusal → Type 0
IsParsed text (Ok document) = IsDocument text (table_view document)
IsParsed text (Err refusal) = IsNoDocument text refusal
