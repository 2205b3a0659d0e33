pub mod Alone
pub mod OneKey
pub mod SameLists
pub mod Stepped
pub mod Taken
pub mod Tying
