pub mod RingIndex
