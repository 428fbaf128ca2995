-- What was read of the first files.
use Rattle.std.specs.Prelude.{◌≡◌, false, List}
use Rattle.std.specs.List.{list_any}
use Rattle.net_model.specs.Configuration.{Configuration}
use Rattle.survey_report.specs.SurveyFiles.{AreFaultsOfFiles, FileFaults, ReadsFileTexts, SurveyFile, is_faulty_file}

-- the faulty lines of each file, and the configurations of those that have none
pub record FilesRead : Type 0 where
  pub configs : List Configuration
  pub found : List FileFaults

-- they are those of these files
pub record AreFilesRead (files : List SurveyFile) (read : FilesRead) : Type 0 where
  pub found : AreFaultsOfFiles files read.found
  pub configs : list_any is_faulty_file read.found ≡ false → ReadsFileTexts files read.configs
