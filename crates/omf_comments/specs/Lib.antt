pub mod Comments
pub mod CommentView
pub mod inside
