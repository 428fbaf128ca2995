pub mod WaveLines
pub mod WaveFiles
pub mod FaultyLines
pub mod WaveFileLaws
pub mod Scripts
pub mod ScriptLaws
pub mod WavesTexts
pub mod steps
