pub mod ClaimedFor
pub mod Counting
pub mod Keys
pub mod Names
pub mod PlacesMore
pub mod Rising
