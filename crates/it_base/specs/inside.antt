pub mod ItemFaults
