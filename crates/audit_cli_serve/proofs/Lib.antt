pub mod RoundLines
pub mod Served
pub mod Carried
