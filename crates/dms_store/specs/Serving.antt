-- The descriptions that a store on blocks can keep a database under, by the name that callers know.
pub use Rattle.dms_spelling.specs.Serving.{IsServed}
