-- The files of a command, and their texts.
use Rattle.std.proofs.lemmas.Grind.{common_steps}
use Rattle.std.proofs.Common.{◌≡◌, ◌∙◌, ℕ, ◌+◌, ◌-◌, ◌<◌, ◌≤◌, List, [], ◌∷◌, ◌++◌, length, map, take, drop, All, codes, lit≤, refl, sym, ap, subst, arith}
use Rattle.std.proofs.lemmas.List.{length-map, get_or-map}
use Rattle.std.specs.Borrow.{Bor}
use Rattle.std.proofs.lemmas.List.Elements.{All-cons, All-append}
use Rattle.sample_network.specs.SampleTexts.{sample_text}
use Rattle.migrate_words.specs.Asked.{IsInRange, IsNumberInRange}
use Rattle.migrate_words.specs.Usages.{usage_of}
use Rattle.migrate_words.specs.declared.command.TheConstants.{LEAST_SAMPLE, MOST_SAMPLE}
use Rattle.migrate_words.specs.declared.command.Command.{Command}
use Rattle.migrate_words.specs.declared.command.CommandKind.{CommandKind}
use Rattle.migrate_words.specs.declared.command.CommandKind.TheVariants.{Delta, Prepare, Sample, Survey}
use Rattle.migrate_cli.specs.Reading.{File, AreShort}
use Rattle.migrate_cli.specs.CommandFiles.{config_file, config_texts, files_of, given_texts, made_texts, names_for, own_file, own_files, own_most, own_texts, text_names}
use Rattle.migrate_cli.specs.steps.FilesRead.{AreTextsApart, ReadsFiles, kept_texts}

-- the file is none that may be longer than 16 MiB
abbrev IsSmall : File → Type 0
IsSmall file = file.most ≤ 16777216

no_files : All IsSmall []
no_files = λ k d within. absurd (omega arith)

small_configs : (names : List (List ℕ)) → All IsSmall (map config_file names)
small_configs [] = no_files
small_configs (n ∷ names) = All-cons IsSmall (config_file n) (map config_file names) (lit≤ tt) (small_configs names)

pub most_small : (kind : CommandKind) → own_most kind ≤ 16777216
most_small kind = grind (arith, common_steps)

small_own : (kind : CommandKind) (names : List (List ℕ)) → All IsSmall (map (own_file kind) names)
small_own kind [] = no_files
small_own kind (n ∷ names) = All-cons IsSmall (own_file kind n) (map (own_file kind) names) (most_small kind) (small_own kind names)

-- no file of a command may be longer than 16 MiB
pub small_files : (command : Command) → All (λ (file : File). file.most ≤ 16777216) (files_of command)
small_files command = grind (arith, common_steps, All-append, small_configs, small_own)

-- what holds of each image holds of each element that it comes from
pub All-mapped : {X Y : Type 0} (P : Y → Type 0) (f : X → Y) (xs : List X) → All P (map f xs) → All (λ x. P (f x)) xs
All-mapped P f xs all k d within =
    subst P (get_or-map f xs k d (f d) within) (all k (f d) (subst (λ n. k < n) (sym (length-map xs f)) within))

-- as many texts as files
pub short_length : (files : List File) (texts : List (List ℕ)) → AreShort files texts → length texts ≡ length files
short_length [] [] short = refl
short_length [] (t ∷ texts) short = absurd short
short_length (f ∷ files) [] short = absurd short
short_length (f ∷ files) (t ∷ texts) short = let e = short_length files texts short.1 in omega (arith, e)

-- the first texts are those of the first files
pub short_front : (own more : List File) (texts : List (List ℕ)) → AreShort (own ++ more) texts → AreShort own (take (length own) texts)
short_front [] more texts short = tt
short_front (f ∷ own) more [] short = absurd short
short_front (f ∷ own) more (t ∷ texts) short = (short.0, short_front own more texts short.1)

-- and the others those of the others
pub short_rest : (own more : List File) (texts : List (List ℕ)) → AreShort (own ++ more) texts → AreShort more (drop (length own) texts)
short_rest [] more texts short = short
short_rest (f ∷ own) more [] short = absurd short
short_rest (f ∷ own) more (t ∷ texts) short = short_rest own more texts short.1

-- texts of configurations have at most 16 MiB each
pub short_configs : (names : List (List ℕ)) (texts : List (List ℕ)) → AreShort (map config_file names) texts →
    All (λ (text : List ℕ). length text ≤ 16777216) texts
short_configs [] [] short = λ k d within. absurd (omega arith)
short_configs [] (t ∷ texts) short = absurd short
short_configs (n ∷ names) [] short = absurd short
short_configs (n ∷ names) (t ∷ texts) short = All-cons (λ (text : List ℕ). length text ≤ 16777216) t texts short.0 (short_configs names texts short.1)

-- a command's files are its own and the configurations
pub files_length : (own : List File) (names : List (List ℕ)) → length (own ++ map config_file names) ≡ length own + length names
files_length [] names = let e = length-map names config_file in omega (arith, e)
files_length (f ∷ own) names = let e = files_length own names in omega (arith, e)

-- ---- a command that reads files has its own texts, and then those of its configurations ----

names_read : (kind : CommandKind) (names : List (List ℕ)) → ReadsFiles kind → names_for kind names ≡ names
names_read kind names reads = grind (arith, common_steps)

texts_read : (kind : CommandKind) (number : ℕ) (texts : List (List ℕ)) → ReadsFiles kind → made_texts kind number texts ≡ texts
texts_read kind number texts reads = grind (arith, common_steps)

module _ (command : Command) (texts : List (List ℕ)) (reads : ReadsFiles command.kind) (short : AreShort (files_of command) texts) where
  pub split_count : length texts ≡ length command.own + length (text_names command)
  split_count =
      let all = short_length (files_of command) texts short in
      let parts = files_length (own_files command) command.configs in
      let own = length-map command.own (own_file command.kind) in
      let same = ap length (names_read command.kind command.configs reads) in
      omega (arith, all, parts, own, same)

  pub split_texts : (own configs : List (List ℕ)) (place : ℕ) → place + length (text_names command) ≡ length texts → own ≡ take place texts →
      configs ≡ drop place texts → AreTextsApart command texts own configs
  split_texts own configs place at front rest =
      let names = command.configs in
      let count = split_count in
      let there : place ≡ length command.own = omega (arith, at, count) in
      let owns : length (own_files command) ≡ length command.own = length-map command.own (own_file command.kind) in
      let own_are : own ≡ own_texts command texts = front ∙ ap (λ n. take n texts) there in
      let made : drop (length command.own) texts ≡ config_texts command texts =
      sym (texts_read command.kind command.number (drop (length command.own) texts) reads) in
      let configs_are : configs ≡ config_texts command texts = rest ∙ ap (λ n. drop n texts) there ∙ made in
      let behind : AreShort (map config_file names) (config_texts command texts) =
      subst (AreShort (map config_file names)) (ap (λ n. drop n texts) owns ∙ made) (short_rest (own_files command) (map config_file names) texts short) in
      let many = short_length (map config_file names) (config_texts command texts) behind in
      let mapped = length-map names config_file in
      let same = ap length (names_read command.kind command.configs reads) in
      let told = ap length configs_are in
      record {
        own_are = own_are;
        configs_are = configs_are;
        own_short =
            subst (AreShort (own_files command)) (ap (λ n. take n texts) owns ∙ sym own_are)
            (short_front (own_files command) (map config_file names) texts short);
        each = omega (arith, many, mapped, same, told);
        configs_short =
            subst (All (λ (text : List ℕ). length text ≤ 16777216)) (sym configs_are) (short_configs names (config_texts command texts) behind);
      }

  -- where they are split by the count of these names
  pub split_names : (names : List (Bor (List ℕ))) (own configs : List (List ℕ)) → map (λ (name : Bor (List ℕ)). name.now) names ≡ text_names command →
      own ≡ take (length texts - length names) texts → configs ≡ drop (length texts - length names) texts → AreTextsApart command texts own configs
  split_names names own configs are front rest =
      let bytes : Bor (List ℕ) → List ℕ = λ name. name.now in
      let count : length names ≡ length (text_names command) = sym (length-map names bytes) ∙ ap length are in
      let all = split_count in
      split_texts own configs (length texts - length names) (omega (arith, all, count)) front rest

-- ---- those that it keeps are as short ----

pub kept_short : (kind : CommandKind) (texts : List (List ℕ)) → All (λ (text : List ℕ). length text ≤ 16777216) texts →
    All (λ (text : List ℕ). length text ≤ 16777216) (kept_texts kind texts)
kept_short Prepare texts short = short
kept_short Delta texts short = short
kept_short _ texts short = λ k d within. absurd (omega arith)

-- ---- `sample` names no file ----

none_of : (names : List (List ℕ)) → length names ≡ 0 → names ≡ []
none_of names none = grind (arith, common_steps)

module _ (command : Command) (is : command.kind ≡ Sample) (range : IsInRange command) where
  pub sample_number : (LEAST_SAMPLE ≤ command.number) × (command.number ≤ MOST_SAMPLE)
  sample_number = subst (λ (kind : CommandKind). IsNumberInRange (usage_of kind).number command.number) is range.number

  pub sample_own : command.own ≡ []
  sample_own = none_of command.own (subst (λ (kind : CommandKind). length command.own ≡ length (usage_of kind).own) is range.own)

  pub sample_names : text_names command ≡ codes "sample" ∷ []
  sample_names = ap (λ (kind : CommandKind). names_for kind command.configs) is

  pub sample_texts : (texts : List (List ℕ)) →
      given_texts [] (sample_text command.number ∷ []) ≡ given_texts (own_texts command texts) (config_texts command texts)
  sample_texts texts =
      let own : [] ≡ own_texts command texts = ap (λ (names : List (List ℕ)). take (length names) texts) (sym sample_own) in
      let made : sample_text command.number ∷ [] ≡ config_texts command texts =
      ap (λ (kind : CommandKind). made_texts kind command.number (drop (length command.own) texts)) (sym is) in
      λ i. given_texts (own i) (made i)

-- ---- the texts of `survey` are those of its configurations ----

module _ (command : Command) (is : command.kind ≡ Survey) (range : IsInRange command) where
  survey_own : command.own ≡ []
  survey_own = none_of command.own (subst (λ (kind : CommandKind). length command.own ≡ length (usage_of kind).own) is range.own)

  pub survey_texts : (texts : List (List ℕ)) → config_texts command texts ≡ texts
  survey_texts texts =
      ap (λ (kind : CommandKind). made_texts kind command.number (drop (length command.own) texts)) is
      ∙ ap (λ (names : List (List ℕ)). drop (length names) texts) survey_own

  pub survey_short : (texts : List (List ℕ)) → AreShort (files_of command) texts → AreShort (map config_file command.configs) texts
  survey_short texts short =
      subst (λ (names : List (List ℕ)). AreShort (map (own_file command.kind) names ++ map config_file command.configs) texts) survey_own short

  pub survey_each : (texts : List (List ℕ)) → AreShort (files_of command) texts → length command.configs ≡ length texts
  survey_each texts short =
      let all = short_length (map config_file command.configs) texts (survey_short texts short) in
      let mapped = length-map command.configs config_file in
      omega (arith, all, mapped)
