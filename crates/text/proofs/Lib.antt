pub mod Spelt
pub mod Alike
pub mod Balance
pub mod Machine
pub mod Nesting
pub mod Spelling
pub mod Spans
pub mod Firsts
