pub mod ObjectFaults
pub mod OpenObject
pub mod AnyFault
pub mod LongText
pub mod Forms
