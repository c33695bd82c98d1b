pub mod AddressFields
