pub mod Sections
pub mod Alike
pub mod Folding
pub mod FirstEqual
pub mod Owners
pub mod Fields
pub mod Contents
pub mod Rounds
