-- What a C function returns and stores for an answer.
pub mod Convention
