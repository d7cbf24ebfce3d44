pub mod AuditText
pub mod Lines
pub mod Printing
