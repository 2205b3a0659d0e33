-- What the headline rests on: every definition that `Made` leads to, in the order in which
-- docs/headline.md quotes them, up to artifact rules; HeadlineParts has the others. The check of
-- this crate keeps the names true, and the list is kept by checks/headline.py, which writes this
-- file.
--
-- the delivered files were made as the owners prescribed
pub use Rattle.it_verify.specs.Made.{Made}
-- the inputs read as these documents with this evidence, and all that was prescribed holds: some
-- file is delivered, every owner of the policy signed the layout, the layout holds for the links
-- and each inspection has its record, every artifact rule holds, and each delivered file has
-- provenance
pub use Rattle.it_verify.specs.Made.{IsMadeBy}
-- the inputs read as these documents: a policy, the delivered files, a moment, and an envelope of
-- the in-toto type (DSSE v1.0) whose payload is a layout (in-toto 1.0 section 4.3)
pub use Rattle.it_verify.specs.Documents.{ReadAs}
-- what the layout and its sublayouts are checked with
pub use Rattle.it_verify.specs.Documents.{setting_of}
-- the layout holds for the links with these records of its steps, and these are what its
-- inspections recorded
pub use Rattle.it_verify.specs.Evidence.{IsEvidence}
-- an inspection recorded this: the first record of its name is a link of that name. Inspections are
-- not run here (this profile's choice)
pub use Rattle.it_verify.specs.Inspections.{HasRecorded}
-- the first record of a name (this profile's choice)
pub use Rattle.it_verify.specs.Inspections.{record_at}
-- what a MATCH may name: the steps and the inspections of the layout
pub use Rattle.it_verify.specs.Evidence.{evidence_links}
-- the artifacts of a link
pub use Rattle.it_verify.specs.Inspections.{recorded_in as verify_recorded_in}
-- the rules that an inspection has for a side
pub use Rattle.it_verify.specs.Inspections.{inspection_rules_on}
-- the rules of an inspection hold for what it recorded, on both sides
pub use Rattle.it_verify.specs.Inspections.{InspectionRulesHold}
-- the delivered files as an item: products, made from no materials
pub use Rattle.it_verify.specs.Delivered.{delivery}
-- a delivered file has provenance: some line of the provenance is an envelope that meets the
-- expectation that speaks of the file
pub use Rattle.it_verify.specs.Provenance.{HasProvenance}
-- a line of the provenance is this envelope (one envelope per line is this profile's choice)
pub use Rattle.it_verify.specs.Provenance.{IsProvenanceLine}
-- the verdict that accepts: each step with how many different keys signed for it, and the delivered
-- files in the order of their paths' bytes
pub use Rattle.it_verify.specs.Made.{verdict_of}
-- the key of each owner signed the envelope
pub use Rattle.it_verify.specs.Owners.{OwnersSign}
-- the key under an id signed the envelope
pub use Rattle.it_dsse.specs.Signed.{IsSigner}
-- the key of number n, which an id and an object name, signed the envelope: some signature vouches
pub use Rattle.it_dsse.specs.Signed.{Signed}
-- a signature of a message is admitted for an id, and is valid for the key of number n
pub use Rattle.it_dsse.specs.Signed.{Vouches}
-- a signature is admitted for an id: its hint is empty or the id (this profile's choice; DSSE v1.0
-- calls keyid an unauthenticated hint)
pub use Rattle.it_dsse.specs.Signed.{is_admitted}
-- what the signatures of an envelope sign
pub use Rattle.it_dsse.specs.Signed.{message_of}
-- what is signed for a body of a type: PAE(type, body); lengths are in bytes
pub use Rattle.it_dsse.specs.Pae.{pae_of}
-- a space
pub use Rattle.it_dsse.specs.Pae.{space}
-- the number of the key that an id and an object name, where equal numbers are the same key (this
-- profile's choice), and whether a signature of a message is valid for the key of a given number
-- (DSSE v1.0 leaves both to the user of the protocol)
pub use Rattle.it_dsse.specs.Check.{Check}
-- the same as one check, but with places
pub use Rattle.it_dsse.specs.Panel.{Panel}
-- a panel's name for a key: the place of a check in it, and the key's number there
pub use Rattle.it_dsse.specs.Panel.{KeyNumber}
-- what the checks answer together
pub use Rattle.it_dsse.specs.Panel.{panel_of}
-- the key at the first place whose check knows it, counting places from this one
pub use Rattle.it_dsse.specs.Panel.{key_from}
-- the key by the check at a place, where it knows the key, and otherwise by a later check
pub use Rattle.it_dsse.specs.Panel.{key_at}
-- the signature is valid according to the check at the key's place
pub use Rattle.it_dsse.specs.Panel.{is_valid_at}
-- a layout holds for a bundle with these records: at depth 0 without sublayouts, and at each
-- greater depth with sublayouts that hold in the same sense at one depth less
pub use Rattle.it_chain.specs.Chain.{Chain}
-- no layout holds
pub use Rattle.it_chain.specs.Chain.{none_holds}
-- what a layout is checked with: what the panel answers, and the moment. Both are the same for
-- every sublayout (this profile's choice)
pub use Rattle.it_chain.specs.CountedBodies.{Setting}
-- which layouts hold for which bundles, and with which records of their steps
pub use Rattle.it_chain.specs.Level.{Holding}
-- a layout holds with these records, one for each step: it has not expired at the moment, each step
-- holds, and so do the rules of each step over these records
pub use Rattle.it_chain.specs.Level.{LevelHolds}
-- as its equation says
pub use Rattle.it_chain.specs.Expiry.{IsExpired}
-- a step holds with this record: no id has two bodies, each body that counts yields the record, and
-- enough different keys signed (that all must agree, even beyond the threshold, is this profile's
-- choice)
pub use Rattle.it_chain.specs.Level.{StepHolds}
-- a key id has these artifacts recorded for a step: a body that counts yields them
pub use Rattle.it_chain.specs.Level.{HasRecord}
-- a body of a key id yields these artifacts: a link yields what it records, a sublayout without
-- inspections the summary of its steps over its own folder
pub use Rattle.it_chain.specs.Level.{Records}
-- the rules of a step hold for its record on both sides
pub use Rattle.it_chain.specs.StepRules.{StepRulesHold}
-- the records of steps, each under its step's name
pub use Rattle.it_chain.specs.StepRules.{links_in}
-- the artifacts of a step's record
pub use Rattle.it_chain.specs.StepRules.{recorded_in as chain_recorded_in}
-- what a sublayout gives: the materials of its first step and the products of its last, and nothing
-- where it has no steps
pub use Rattle.it_chain.specs.Summary.{summary}
-- the materials of the first step, and none where there are no steps
pub use Rattle.it_chain.specs.Summary.{first_materials}
-- the products of the last step, and those before where there are no steps
pub use Rattle.it_chain.specs.Summary.{last_products}
-- these bytes are a body that counts for a step under a key id: the payload of some file that is
-- claimed for the step and signed by a key that the step lists and the layout has
pub use Rattle.it_chain.specs.CountedBodies.{Counted}
-- what the body of an envelope can be for a step
pub use Rattle.it_chain.specs.CountedBodies.{Body}
-- the bytes are this body for a step: a link that has the step's name, or a layout
pub use Rattle.it_chain.specs.CountedBodies.{BodyOf}
-- the number of different keys that signed a body that counts for a step: the length of a list that
-- has each of these keys once, and no other
pub use Rattle.it_chain.specs.Threshold.{Found}
-- a key signed some body that counts for a step
pub use Rattle.it_chain.specs.Threshold.{KeyCounts}
-- whether two numbers of a panel name one key
pub use Rattle.it_chain.specs.Threshold.{same_key}
-- a file's name claims the file for a step: the step's name, a full stop, a text that is not empty
-- and has no full stop, and `.link`
pub use Rattle.it_chain.specs.ClaimedFiles.{IsClaimed}
-- that folder of a bundle; a missing one is empty
pub use Rattle.it_chain.specs.Sublayouts.{folder_of}
-- the name of the folder that a sublayout's files are in: the step's name, a full stop, and the
-- first 8 characters of the key id
pub use Rattle.it_chain.specs.Sublayouts.{folder_name}
-- the first characters of a text, or all of a shorter one; a character is a Unicode scalar value
pub use Rattle.it_chain.specs.Sublayouts.{first_characters}
-- files in order, whose names may repeat, and folders
pub use Rattle.it_chain.specs.Contents.{Contents}
-- folders under names, in the order of the names' bytes
pub use Rattle.it_chain.specs.Contents.{Folders}
-- the files of a bundle
pub use Rattle.it_chain.specs.Contents.{files_of}
-- the folder of a name in a bundle
pub use Rattle.it_chain.specs.Contents.{folder_at}
-- the folder of this name
pub use Rattle.it_chain.specs.Contents.{folder_in}
-- the bundle without files and folders
pub use Rattle.it_chain.specs.Contents.{empty}
-- every rule holds
pub use Rattle.it_rules.specs.Rules.{RulesHold}
-- the rule with the index i holds
pub use Rattle.it_rules.specs.Rules.{Holds}
-- a rule holds over the paths that are free before it: DISALLOW where it matches none of them,
-- REQUIRE where its text, taken literally (this profile's choice), is one of them
pub use Rattle.it_rules.specs.Rules.{HoldsOver}
-- a path of the side that no rule with an index below i claims
pub use Rattle.it_rules.specs.Rules.{IsFree}
-- a rule claims a path of the side that it is judged on. DISALLOW and REQUIRE claim nothing
pub use Rattle.it_rules.specs.Rules.{Claims}
-- MATCH claims a path of these artifacts: the pattern matches it without the source prefix, and the
-- named item has it under the target prefix instead, on the given side, with digests that agree
pub use Rattle.it_rules.specs.Rules.{MatchClaims}
-- CREATE claims a product that is not a material
pub use Rattle.it_rules.specs.Rules.{CreateClaims}
-- DELETE claims a material that is not a product
pub use Rattle.it_rules.specs.Rules.{DeleteClaims}
-- MODIFY claims a material that is also a product, with digests that differ (this profile's choice:
-- digests with no algorithm in common are not enough)
pub use Rattle.it_rules.specs.Rules.{ModifyClaims}
-- a pattern matches a path
pub use Rattle.it_rules.specs.Rules.{IsMatch}
-- a path is in a map
pub use Rattle.it_rules.specs.Rules.{Stands as rules_Stands}
-- the artifacts of an item
pub use Rattle.it_rules.specs.Item.{Recorded}
-- what items recorded, each under its name
pub use Rattle.it_rules.specs.Item.{Links}
-- the artifacts on one side
pub use Rattle.it_rules.specs.Item.{artifacts_on}
-- a prefix, with a slash at its end where it lacks one
pub use Rattle.it_rules.specs.FolderPrefix.{folder_prefix}
-- whether a prefix is not empty and has no slash at its end
pub use Rattle.it_rules.specs.FolderPrefix.{lacks_slash}
