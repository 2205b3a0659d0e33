-- The links that are looked at where public keys are checked (this profile's choice).
use Rattle.std.specs.Prelude.{Contains}
use Rattle.it_chain.specs.AllFiles.{all_files}
use Rattle.it_chain.specs.Contents.{Contents}
use Rattle.it_chain.specs.declared.bundle.File.{File}
use Rattle.it_limits.specs.Limit.{IsWithinLimit}

-- each file, in every folder, is within the limit
abbrev pub AreFilesWithin : Contents → Type 0
AreFilesWithin links = (file : File) → Contains (all_files links) file → IsWithinLimit file.bytes
