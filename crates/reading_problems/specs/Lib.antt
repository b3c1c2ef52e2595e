pub mod Parties
