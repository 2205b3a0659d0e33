-- The entries of transparency logs that a bundle has (Sigstore's `VerificationMaterial`).
use Rattle.std.specs.Prelude.{◌≡◌, ◌<◌, ◌≤◌, List, [], length, codes}
use Rattle.serde_json.specs.Data.{Data}
use Rattle.it_base.specs.Parts.{IsPart}
use Rattle.it_base.specs.Sequence.{IsList}
use Rattle.it_log_entry.specs.LogEntry.{IsLogEntry}
use Rattle.it_log_entry.specs.declared.entry.LogEntry.{LogEntry}
use Rattle.it_bundle.specs.declared.entries.BundleEntries.{BundleEntries}
use Rattle.it_bundle.specs.declared.entries.BundleEntries.TheVariants.{Listed, Missing, TooMany}
use Rattle.it_bundle.specs.declared.listed_entry.ListedEntry.{ListedEntry}
use Rattle.it_bundle.specs.declared.listed_entry.ListedEntry.TheVariants.{Entry, Unreadable}

-- the part is an entry, or one that does not read
abbrev pub IsListedEntry : Data → ListedEntry → Type 0
IsListedEntry d (Entry entry) = IsLogEntry d entry
IsListedEntry d Unreadable = (entry : LogEntry) → ¬ IsLogEntry d entry

-- the list of entries
abbrev pub AreListed : Data → List ListedEntry → Type 0
AreListed = IsPart (IsList IsListedEntry) (codes "tlogEntries")

-- the entries in the material of a bundle: 1 to 8 (this profile's choice), or too few or too many
abbrev pub IsEntries : Data → BundleEntries → Type 0
IsEntries d (Listed entries) =
    AreListed d entries × (0 < length entries) × (length entries ≤ 8)
IsEntries d Missing = (entries : List ListedEntry) → AreListed d entries → entries ≡ []
IsEntries d TooMany = (entries : List ListedEntry) × AreListed d entries × (8 < length entries)
