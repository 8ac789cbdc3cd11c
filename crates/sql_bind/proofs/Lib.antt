pub mod ExprArms
pub mod ItemArms
pub mod RowsAt
pub mod Sizes
