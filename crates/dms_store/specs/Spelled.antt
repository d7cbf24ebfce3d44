-- The database that the blocks of structure files spell, by the name that callers know.
pub use Rattle.dms_spelling.specs.Spelled.{some_if, database_in}
unfoldable pub use Rattle.dms_spelling.specs.Spelled.{db_in, is_spelled}
