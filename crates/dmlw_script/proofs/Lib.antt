-- The lemmas of `dmlw_script`. The proof of a function is in the folder that is named after its
-- source file.
mod Spelling
pub mod DraftLemmas
pub mod WordLaws
pub mod LineParserLaws
pub mod BodyLaws
pub mod FaultLaws
pub mod CanonicalTextLaws
pub mod ScriptLaws
pub mod HeadLaws
pub mod ReaderLaws
pub mod EarlyLines
pub mod RecorderLaws
pub mod RecorderFaults
pub mod RunLaws
pub mod RunFaults
