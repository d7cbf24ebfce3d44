pub mod Valids
