pub mod Restores
pub mod RollbackDoes
pub mod RebuildDoes
pub mod ReconstructDoes
