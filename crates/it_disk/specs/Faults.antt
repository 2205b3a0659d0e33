-- Which fault says what went wrong, and which file it names (this profile's choice).
use Rattle.std.specs.Prelude.{◌≡◌, ℕ, List, string_bytes}
use Rattle.it_dsse.specs.Ring.{RingOf}
use Rattle.it_dsse.specs.declared.key_object.KeyObject.{KeyObject}
use Rattle.it_dsse.specs.declared.ring_entry.RingEntry.{RingEntry}
use Rattle.it_base.specs.Table.{Named}
use Rattle.it_key_commands.specs.KeysFile.{KeysOf}
use Rattle.it_outcome.specs.declared.outcome.RunFault.TheVariants.{OutOfMemory}
use Rattle.it_trust_root.specs.RootPart.{RootPartOf}
use Rattle.it_words.specs.declared.words.WordsFault.{WordsFault}
use Rattle.it_words.specs.declared.words.WordsFault.TheVariants.{Unread, OutOfMemory as no_memory}
use Rattle.it_disk.specs.Reading.{Holdings}
use Rattle.it_disk.specs.RingFlaw.{IsRingFlaw}
use Rattle.it_disk.specs.Shown.{shown_form}
use Rattle.it_disk.specs.declared.fault.Fault.{Fault}
use Rattle.it_disk.specs.declared.fault.Fault.TheVariants.{
  BadKeys,
  BadLine,
  BadRing,
  BadRoot,
  Run,
  TooLarge,
  Unreadable,
  Unwritable,
  Words,
}
use Rattle.it_disk.specs.declared.shown.Shown.{Shown}

-- the program's fault where its words give no command
abbrev pub fault_of_words : WordsFault → Fault
fault_of_words (Unread reason) = Words reason
fault_of_words no_memory = Run OutOfMemory

-- the fault speaks of the words
abbrev pub IsWords : Fault → Type 0
IsWords (Words text) = Unit {0}
IsWords other = ⊥

-- the fault speaks of the words, and says this
abbrev pub SaysOfWords : List ℕ → Fault → Type 0
SaysOfWords reason (Words text) = string_bytes text ≡ reason
SaysOfWords reason other = ⊥

-- a note shows the name in this way
abbrev pub Shows : Shown → List ℕ → Type 0
Shows shown name = shown.form.items ≡ shown_form name

-- the fault says that what is at the path cannot be read
abbrev pub IsUnreadable : List ℕ → Fault → Type 0
IsUnreadable path (Unreadable shown reason) = Shows shown path
IsUnreadable path other = ⊥

-- the fault says that what is at the path cannot be read, for this reason
abbrev pub IsUnreadFor : List ℕ → List ℕ → Fault → Type 0
IsUnreadFor path reason (Unreadable shown text) = Shows shown path × (string_bytes text ≡ reason)
IsUnreadFor path reason other = ⊥

-- the fault names this bad line of the digest list at the path
abbrev pub IsBadLine : List ℕ → ℕ → Fault → Type 0
IsBadLine path line (BadLine shown number) = Shows shown path × (number ≡ line)
IsBadLine path line other = ⊥

-- the fault says that the output cannot be written
abbrev pub IsUnwritable : Fault → Type 0
IsUnwritable (Unwritable reason) = Unit {0}
IsUnwritable other = ⊥

-- a fault of reading what is at the path: memory was refused, or it cannot be read
abbrev pub IsReadFault : List ℕ → Fault → Type 0
IsReadFault path (Run fault) = fault ≡ OutOfMemory
IsReadFault path (Unreadable shown reason) = Shows shown path
IsReadFault path other = ⊥

-- a fault of reading the file at the path: also that it has more bytes than are read
abbrev pub IsFileFault : List ℕ → Fault → Type 0
IsFileFault path (TooLarge shown limit) = Shows shown path × (limit ≡ 8388608)
IsFileFault path fault = IsReadFault path fault

-- the fault says that the file at the path is no ring, and why; it is none, and has that flaw
abbrev pub IsNoRing : Holdings → List ℕ → Fault → Type 0
IsNoRing disk path (BadRing shown flaw) = Shows shown path
    × (bytes : List ℕ) × disk.file path bytes × ((ring : List RingEntry) → ¬ RingOf bytes ring)
    × IsRingFlaw bytes flaw
IsNoRing disk path other = ⊥

-- the fault says that the file at the path does not hold key objects, and it holds none
abbrev pub IsNoKeys : Holdings → List ℕ → Fault → Type 0
IsNoKeys disk path (BadKeys shown) = Shows shown path
    × (bytes : List ℕ) × disk.file path bytes × ((keys : Named KeyObject) → ¬ KeysOf bytes keys)
IsNoKeys disk path other = ⊥

-- the fault says that the file at the path is no trusted root, and which part of it is the first
-- that fails
abbrev pub IsNoRoot : Holdings → List ℕ → Fault → Type 0
IsNoRoot disk path (BadRoot shown flaw) = Shows shown path
    × (bytes : List ℕ) × disk.file path bytes × RootPartOf bytes flaw.part
IsNoRoot disk path other = ⊥
