pub mod OneValue
