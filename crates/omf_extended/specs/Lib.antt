pub mod Numbers
pub mod Said
pub mod Body
pub mod View
pub mod Answer
pub mod inside
