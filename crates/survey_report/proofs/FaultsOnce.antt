-- Files have one list of faulty lines, which is empty where they are read.
use Rattle.std.proofs.Common.{◌≡◌, suc, ◌<◌, Bool, false, ◌||◌, List, [], ◌∷◌, length, map, get_or, drop, All, Contains, refl, sym, ap, ap₂, subst, ◌∙◌, arith}
use Rattle.std.specs.List.{list_any}
use Rattle.std.specs.Prelude.{nat_lt}
use Rattle.net_model.specs.Configuration.{Configuration}
use Rattle.net_model.proofs.Members.{Contains-first, Contains-none}
use Rattle.ios_lines.specs.declared.fault.Fault.{Fault}
use Rattle.ios_reader.specs.FaultyLines.{AreLeastOnLines}
use Rattle.ios_reader.specs.Faults.{faults_in}
use Rattle.ios_reader.specs.Texts.{ReadsText}
use Rattle.ios_sections.specs.TextLines.{lines_in}
use Rattle.survey_report.specs.SurveyFiles.{AreFaultsOfFile, FileFaults, ReadsFileTexts, SurveyFile, is_faulty_file}
use Rattle.survey_report.proofs.ListedOnce.{ascending_same}
use Rattle.survey_report.proofs.PartFacts.{ArePartsOf-unique}

-- ---- the faulty lines of one file ----

told_once : (faults one other : List Fault) → AreLeastOnLines faults one → AreLeastOnLines faults other → one ≡ other
told_once faults one other a b =
    ascending_same (λ (f g : Fault). f.line < g.line) (λ f l. omega arith) (λ f g h l m. omega arith) one other a.ascending b.ascending
    (λ f c. (b.each f).1 ((a.each f).0 c)) (λ f c. (a.each f).1 ((b.each f).0 c))

told_none : (faults told : List Fault) → faults ≡ [] → AreLeastOnLines faults told → told ≡ []
told_none faults [] none a = refl
told_none faults (f ∷ fs) none a =
    absurd (Contains-none f (subst (λ (l : List Fault). Contains l f) none ((a.each f).0 (Contains-first f fs)).among))

-- ---- those of all ----

file_of : FileFaults → SurveyFile
file_of one = one.file

rest_of : (x : FileFaults) (xs : List FileFaults) → All AreFaultsOfFile (x ∷ xs) → All AreFaultsOfFile xs
rest_of x xs each k d l = each (suc k) d (omega arith)

first_of : (x : FileFaults) (xs : List FileFaults) → All AreFaultsOfFile (x ∷ xs) → AreFaultsOfFile x
first_of x xs each = each 0 x (omega arith)

pub faults_once : (one other : List FileFaults) → map (λ (x : FileFaults). x.file) one ≡ map (λ (x : FileFaults). x.file) other →
    All AreFaultsOfFile one → All AreFaultsOfFile other → one ≡ other
faults_once [] [] same a b = refl
faults_once [] (y ∷ ys) same a b = absurd (omega (arith, ap (λ (l : List SurveyFile). length l) same))
faults_once (x ∷ xs) [] same a b = absurd (omega (arith, ap (λ (l : List SurveyFile). length l) same))
faults_once (x ∷ xs) (y ∷ ys) same a b =
    let file : x.file ≡ y.file = ap (λ (l : List SurveyFile). get_or l 0 x.file) same in
    let faults : x.faults ≡ y.faults =
    told_once (faults_in (lines_in y.file.text)) x.faults y.faults
    (subst (λ (f : SurveyFile). AreLeastOnLines (faults_in (lines_in f.text)) x.faults) file (first_of x xs a)) (first_of y ys b) in
    let rest : xs ≡ ys = faults_once xs ys (ap (λ (l : List SurveyFile). drop 1 l) same) (rest_of x xs a) (rest_of y ys b) in
    λ i. record { file = file i; faults = faults i } ∷ rest i

-- files that are read have none
pub faultless : (all : List FileFaults) (configs : List Configuration) → All AreFaultsOfFile all →
    ReadsFileTexts (map (λ (x : FileFaults). x.file) all) configs → list_any is_faulty_file all ≡ false
faultless [] configs each reads = refl
faultless (x ∷ xs) configs each reads =
    let none : x.faults ≡ [] =
    told_none (faults_in (lines_in x.file.text)) x.faults reads.is_one.faultless (first_of x xs each) in
    ap₂ (λ (a b : Bool). a || b) (ap (λ (l : List Fault). nat_lt 0 (length l)) none)
    (faultless xs reads.other (rest_of x xs each) reads.is_other)

-- and one list of configurations
pub configs_once : (files : List SurveyFile) (one other : List Configuration) → ReadsFileTexts files one → ReadsFileTexts files other → one ≡ other
configs_once files one other =
    ArePartsOf-unique (λ (file : SurveyFile). ReadsText file.text) (λ file a b p q. p.made ∙ sym q.made) files one other
