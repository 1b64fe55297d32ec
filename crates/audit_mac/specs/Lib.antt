pub mod Hmac
pub mod Taking
