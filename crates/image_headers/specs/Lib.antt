pub mod ImageHeaders
