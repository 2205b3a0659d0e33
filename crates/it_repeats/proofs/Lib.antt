pub mod SeenNames
pub mod Walking
