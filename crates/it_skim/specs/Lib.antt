pub mod TextMember
pub mod inside
