pub mod Justified
pub mod IdsJustified
pub mod Certify
pub mod Accepted
pub mod Laws
pub mod Refusals
