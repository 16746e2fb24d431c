pub mod WordsValues
