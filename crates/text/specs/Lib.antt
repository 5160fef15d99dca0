pub mod Cut
pub mod Decimal
