pub mod GivenBytes
pub mod SentBytes
