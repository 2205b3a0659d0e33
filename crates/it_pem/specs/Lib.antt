pub mod Label
pub mod PublicKeyText
pub mod inside
