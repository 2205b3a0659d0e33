-- A key id that may sign for a step, as an entry of a layout's keys.
use Rattle.std.specs.Prelude.{ℕ, List}
use Rattle.it_dsse.specs.declared.key_object.KeyObject.{KeyObject}
use Rattle.it_chain.specs.declared.signers.Signer.{Signer}

-- the id, and the object that the layout has for it
abbrev pub entry_of : Signer → List ℕ × KeyObject
entry_of signer = (signer.id.now, signer.object.now)
