-- What is printed of a design that is refused.
use Rattle.std.specs.Prelude.{List, [], ◌∷◌, codes, ℕ}
use Rattle.design_file.specs.declared.refusal.DesignKind.{DesignKind}
use Rattle.design_file.specs.declared.refusal.DesignKind.TheVariants.{NotToml, UnknownKey, WrongKind, BadArea}
use Rattle.design_file.specs.declared.refusal.DesignKind.TheVariants.{BadLevel, BadMetric, UnknownRouter, UnknownInterface, AlreadyIsis}
use Rattle.printed_lines.specs.Texts.{line}

-- what is wrong with a design
abbrev pub design_kind_name : DesignKind → List ℕ
design_kind_name NotToml = codes "NotToml"
design_kind_name UnknownKey = codes "UnknownKey"
design_kind_name WrongKind = codes "WrongKind"
design_kind_name BadArea = codes "BadArea"
design_kind_name BadLevel = codes "BadLevel"
design_kind_name BadMetric = codes "BadMetric"
design_kind_name UnknownRouter = codes "UnknownRouter"
design_kind_name UnknownInterface = codes "UnknownInterface"
design_kind_name AlreadyIsis = codes "AlreadyIsis"

-- a design is refused: the file, the path of keys to what is wrong, and the kind
abbrev pub refused_design_text : List ℕ → List ℕ → DesignKind → List ℕ
refused_design_text file path kind = line (codes "refused") (file ∷ path ∷ design_kind_name kind ∷ [])
