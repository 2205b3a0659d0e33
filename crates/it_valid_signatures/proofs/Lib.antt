pub mod FirstSigned
