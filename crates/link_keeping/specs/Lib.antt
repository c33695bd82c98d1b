pub mod Reach
pub mod Standing
pub mod Named
pub mod LookedUp
