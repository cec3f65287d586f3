-- S-resolution and the check of its derivations, over lists, and what is claimed of both.
pub mod Resolution
pub mod Claims
