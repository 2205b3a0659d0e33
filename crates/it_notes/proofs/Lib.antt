mod Both
mod Delivering
mod Holding
mod Levels
