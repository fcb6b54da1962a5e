pub mod BoundedLaws
pub mod ListLaws
