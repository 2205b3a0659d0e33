pub mod EnvelopeUses
pub mod SharedNonces
