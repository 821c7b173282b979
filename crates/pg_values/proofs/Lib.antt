mod Division
pub mod Mirror
