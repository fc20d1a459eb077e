pub mod KindLemmas
pub mod PieceLemmas
pub mod LineLemmas
pub mod FieldLemmas
pub mod StatementLemmas
pub mod RunLaws
pub mod FieldLaws
pub mod RuleLaws
pub mod ListLaws
mod Rows
pub mod Words
