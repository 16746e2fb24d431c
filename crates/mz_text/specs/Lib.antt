pub mod Program
pub mod inside
