pub mod CaseFiles
