pub mod ImagePdb
