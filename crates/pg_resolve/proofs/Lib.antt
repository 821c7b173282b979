pub mod Written
pub mod Stopping
pub mod Finding
pub mod Holding
pub mod Placing
pub mod FittingExprs
