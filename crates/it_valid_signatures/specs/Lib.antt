pub mod FirstPlace
