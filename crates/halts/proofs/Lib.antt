-- The laws by which users of this crate know rounds; all of it is checked.
pub mod Laws
