-- How much of a folder of links was read so far.
use Rattle.std.specs.Prelude.{◌≡◌, ◌+◌, ◌<◌, ◌≤◌, ℕ, List, codes}
use Rattle.it_outcome.specs.declared.outcome.RunFault.TheVariants.{OutOfMemory}
use Rattle.it_chain.specs.Contents.{Contents}
use Rattle.it_disk.specs.Faults.{IsUnreadFor, Shows}
use Rattle.it_disk.specs.LinksCount.{count_of, most_entries}
use Rattle.it_disk.specs.LinksSize.{most_bytes, size_of}
use Rattle.it_disk.specs.declared.fault.Fault.{Fault}
use Rattle.it_disk.specs.declared.fault.Fault.TheVariants.{Run, TooManyInAll, TooMuch}
use Rattle.it_disk.specs.declared.fault.Fault.TheVariants.{Unreadable}
use Rattle.it_disk.specs.declared.so_far.SoFar.{SoFar}

-- how many names the folders of links may have in all: a million
abbrev pub most_names : ℕ
most_names = 1000000

-- it is no more than may be read
pub record IsWithin (read : SoFar) : Type 0 where
  pub bytes : read.bytes ≤ most_bytes
  pub entries : read.entries ≤ most_entries
  pub names : read.names ≤ most_names

-- what was read has at least these links more than what was read before
pub record IsCountedIn (read before : SoFar) (links : Contents) : Type 0 where
  pub bytes : before.bytes + size_of links ≤ read.bytes
  pub entries : before.entries + count_of links ≤ read.entries

-- the fault of what is at the path, a folder or a file of so many bytes, after so much was read:
-- it is one too many, or has too many bytes, or memory was refused
abbrev pub IsOver : SoFar → List ℕ → ℕ → Fault → Type 0
IsOver read path size (TooManyInAll shown limit) = Shows shown path
    × (limit ≡ most_entries) × (most_entries ≤ read.entries)
IsOver read path size (TooMuch shown limit) = Shows shown path
    × (limit ≡ most_bytes) × (read.entries < most_entries) × (most_bytes < read.bytes + size)
IsOver read path size (Run fault) = fault ≡ OutOfMemory
IsOver read path size other = ⊥

-- the fault of a folder at the path, of so many names, after so much was read: they are too many,
-- or memory was refused
abbrev pub IsOverNames : SoFar → List ℕ → ℕ → Fault → Type 0
IsOverNames read path count (Unreadable shown reason) = (most_names < read.names + count)
    × IsUnreadFor path (codes "with it the folders of links have more than 1000000 names in all")
    (Unreadable shown reason)
IsOverNames read path count (Run fault) = fault ≡ OutOfMemory
IsOverNames read path count other = ⊥
