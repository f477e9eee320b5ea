pub mod Laws
pub mod Twins
pub mod GoodHandIns
