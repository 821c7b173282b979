pub mod Lending
mod Listing
