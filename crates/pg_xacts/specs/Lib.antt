pub mod Transactions
pub mod Snapshots
pub mod Rising
pub mod Kept
