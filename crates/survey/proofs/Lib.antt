pub mod Onward
mod Looking
mod Accounts
mod Advance
mod Runs
mod Underway
