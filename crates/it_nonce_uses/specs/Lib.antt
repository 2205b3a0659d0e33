pub mod DeliveryUses
pub mod FileUses
pub mod LayoutUses
pub mod OwnerUses
