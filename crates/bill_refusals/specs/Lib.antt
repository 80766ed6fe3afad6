-- The requests of bill and rebill, and what is known of an accepted one.
pub mod Requests
