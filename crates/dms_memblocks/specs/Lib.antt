pub mod Undoing
pub mod UndoLaws
pub mod View
