mod Lending
mod Unusing
mod Using
