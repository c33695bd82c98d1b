pub mod SaidFaults
pub mod Held
pub mod Parts
