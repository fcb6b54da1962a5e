pub mod CallLaws
pub mod CheckLaws
pub mod ReadLaws
pub mod RowLaws
pub mod SubmitLaws
pub mod ViewLaws
pub mod WriteLaws
