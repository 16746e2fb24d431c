pub mod ProgramValues
pub mod WordsValues
