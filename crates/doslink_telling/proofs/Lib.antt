pub mod Staying
pub mod Texts
pub mod Doubled
mod SymbolTables
mod Sets
mod WorkedNumbers
