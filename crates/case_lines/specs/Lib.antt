pub mod CaseLines
