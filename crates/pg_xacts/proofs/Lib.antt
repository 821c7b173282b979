pub mod Rising
pub mod Lists
pub mod Transactions
pub mod Snapshots
pub mod Kept
