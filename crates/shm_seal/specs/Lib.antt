pub mod Name
pub mod NameOf
pub mod Hmac
pub mod KeyOf
pub mod Seal
pub mod SealOf
