-- Laws of the report.
pub mod ReportLaws
