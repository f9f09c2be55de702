pub mod Rastered
pub mod Laws
pub mod Fit
pub mod Laid
