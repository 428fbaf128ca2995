use Rattle.std.proofs.Common.{[], ◌∷◌, ◌++◌, sym, subst}
use Rattle.std.specs.Prelude.{IfErr, IfOk}
use Rattle.std.proofs.lemmas.Result.{IfOk-weaker}
use Rattle.ios_reader.specs.FaultyLines.{AreFaultyLines}
use Rattle.ios_reader.specs.Texts.{ReadsText}
use Rattle.survey_report.specs.SurveyFiles.{SurveyFile}
use Rattle.survey_report.specs.steps.Reading.{AreFilesRead, FilesRead}
use Rattle.survey_report.proofs.ReadingFacts.{configs_read, faults_read}
use Rattle.survey_report.proofs.reading.with_file.Goals as goal

pub returns-in-Ok : goal.returns-in-Ok
returns-in-Ok c =
    let reads : ReadsText c.args.file.now.text c.in-Ok.configs =
    subst (λ (f : SurveyFile). ReadsText f.text c.in-Ok.configs) c.file.view_is
    (subst (λ r. IfOk r (ReadsText c.file.inside.text.now)) c.in-Ok.is c.in_ok-configs.ensures.read) in
    IfOk-weaker c.with_configs.result _ _
    (λ longer is files are.
    subst (λ (l : FilesRead). AreFilesRead (files ++ c.args.file.now ∷ []) l) (sym is)
    (configs_read files c.args.read c.args.file.now c.in-Ok.configs are reads)) c.with_configs.ensures

pub returns-in-Err : goal.returns-in-Err
returns-in-Err c =
    let faulty : AreFaultyLines c.args.file.now.text c.in-Err.faults.items =
    subst (λ (f : SurveyFile). AreFaultyLines f.text c.in-Err.faults.items) c.file.view_is
    (subst (λ r. IfErr r (λ faults. AreFaultyLines c.file.inside.text.now faults.items)) c.in-Err.is c.in_ok-configs.ensures.faulty) in
    IfOk-weaker c.with_faults.result _ _
    (λ longer is files are.
    subst (λ (l : FilesRead). AreFilesRead (files ++ c.args.file.now ∷ []) l) (sym is)
    (faults_read files c.args.read c.args.file.now c.in-Err.faults.items are faulty)) c.with_faults.ensures
