pub mod ListFaults
