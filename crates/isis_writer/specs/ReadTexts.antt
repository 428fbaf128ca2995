-- The configurations that several texts are read as, one text after the other.
use Rattle.std.specs.Prelude.{◌≡◌, ℕ, List, [], ◌∷◌, ◌++◌}
use Rattle.net_model.specs.Configuration.{Configuration}
use Rattle.ios_reader.specs.Texts.{ReadsText}

-- a text gives the first configurations of these, and the others are as Others says
pub record ReadsFirst (text : List ℕ) (Others : List Configuration → Type 0) (configs : List Configuration) : Type 0 where
  pub one : List Configuration
  pub others : List Configuration
  pub reads : ReadsText text one
  pub rest : Others others
  pub all : configs ≡ one ++ others

-- no text has a faulty line, and these are the configurations of all, in order
abbrev pub ReadsTexts : List (List ℕ) → List Configuration → Type 0
ReadsTexts [] configs = configs ≡ []
ReadsTexts (text ∷ texts) configs = ReadsFirst text (ReadsTexts texts) configs
