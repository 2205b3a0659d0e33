-- What the headline rests on: every definition that `Made` leads to, in the order in which
-- docs/headline.md quotes them, from path patterns on. The check of this crate keeps the names
-- true, and the list is kept by checks/headline.py, which writes this file.
--
-- items match a whole text
pub use Rattle.it_glob.specs.Pattern.{Matches}
-- items match characters. A star takes any prefix of them, even the empty one; every other item
-- takes the first
pub use Rattle.it_glob.specs.Pattern.{MatchesChars}
-- an item takes a character. A star tests no character
pub use Rattle.it_glob.specs.Pattern.{Takes}
-- a character is in the body of a set. Where at least three characters are left and the second is ,
-- the first three are a range with both ends included; otherwise the first matches itself
pub use Rattle.it_glob.specs.Pattern.{InBody}
-- the items of a pattern's text, read from left to right
pub use Rattle.it_glob.specs.Pattern.{items_of}
-- the items of the characters that follow the first n
pub use Rattle.it_glob.specs.Pattern.{items_after}
-- the item that the character c begins, and how many of the characters cs after it that item takes
pub use Rattle.it_glob.specs.Pattern.{item_at}
-- the set whose [ precedes these characters
pub use Rattle.it_glob.specs.Pattern.{set_at}
-- the set with or without negation whose body begins these characters, and how many characters it
-- takes after its [: the ! if it is negated, the body and the ]
pub use Rattle.it_glob.specs.Pattern.{set_of}
-- whether a set is negated, given the characters after its [, and the characters from its body on:
-- a ! right after the [ is the negation
pub use Rattle.it_glob.specs.Pattern.{negation_of}
-- the length of the body of a set, where cs begins with it: it ends before the first ] that is not
-- its first character
pub use Rattle.it_glob.specs.Pattern.{body_len}
-- whether a character ends the body of a set
pub use Rattle.it_glob.specs.Pattern.{is_close}
-- the item of a character that begins no set
pub use Rattle.it_glob.specs.Pattern.{plain_item}
-- some algorithm is in both sets, and the sets do not differ
pub use Rattle.it_digest.specs.Compare.{Agree}
-- some algorithm is in both sets, with unequal values
pub use Rattle.it_digest.specs.Compare.{Differ}
-- an algorithm is in both sets, with these values
pub use Rattle.it_digest.specs.Compare.{StandsInBoth}
-- the algorithms of digests that are known
pub use Rattle.it_digest.specs.DigestSet.{Algorithm}
-- the bytes that a set has under an algorithm, if any
pub use Rattle.it_digest.specs.DigestSet.{value_in}
-- the name of the member that holds an algorithm's value
pub use Rattle.it_digest.specs.DigestSet.{name_of}
-- how many bytes its value has
pub use Rattle.it_digest.specs.DigestSet.{size_of}
-- the set with this digest under an algorithm, and no other
pub use Rattle.it_digest.specs.DigestSet.{only}
-- the set without a digest
pub use Rattle.it_digest.specs.DigestSet.{no_digests}
-- paths are compared by their bytes
pub use Rattle.it_digest.specs.Artifacts.{ArtifactMap}
-- the first of the expectations that speaks of a path
pub use Rattle.it_prov.specs.Fits.{Fits}
-- an expectation's pattern matches a path
pub use Rattle.it_prov.specs.Fits.{SpeaksOf}
-- an envelope meets an expectation for a file with these digests
pub use Rattle.it_prov.specs.Meets.{Meets}
-- an envelope meets an expectation for a file with these digests, in all but this builder's level
pub use Rattle.it_prov.specs.Meets.{MeetsBesidesLevel}
-- a builder signed the envelope: the panel knows the key of one of its ids, and that key signed
pub use Rattle.it_prov.specs.Meets.{SignedByBuilder}
-- the envelope's payload is a Statement with this provenance, a subject of which has the digests
pub use Rattle.it_prov.specs.Meets.{Attests}
-- the parameters are the expected ones, and others under names that may be ignored
pub use Rattle.it_prov.specs.Meets.{ParametersMeet}
-- there is a tree under a name, and it is equal to the one that is expected there
pub use Rattle.it_prov.specs.Meets.{StandsEqual}
-- a number that serde_json does not read as an integer of 64 bits is `other`
pub use Rattle.it_base.specs.Json.{Json}
-- the items of a list
pub use Rattle.it_base.specs.Json.{Items}
-- the members of an object
pub use Rattle.it_base.specs.Json.{Fields}
-- whether two trees are equal
pub use Rattle.it_base.specs.Equal.{equal}
-- whether two truth values are equal
pub use Rattle.it_base.specs.Equal.{same_flag}
-- whether two lists of trees are equal
pub use Rattle.it_base.specs.Equal.{equal_items}
-- whether two objects are equal
pub use Rattle.it_base.specs.Equal.{equal_fields}
-- the bytes are a document that is this envelope
pub use Rattle.it_dsse.specs.Envelope.{EnvelopeOf}
-- an envelope in a document
pub use Rattle.it_dsse.specs.Envelope.{IsEnvelope}
-- a signature in a document: its hint about the key may be missing, and is then empty
pub use Rattle.it_dsse.specs.Envelope.{IsSignature}
-- the payload type of layouts, links and Statements
pub use Rattle.it_docs.specs.PayloadType.{in_toto_type}
-- the bytes are a document that is this layout
pub use Rattle.it_docs.specs.Layout.{LayoutOf}
-- a layout in a document; missing keys, steps or inspections are empty. The types ensure that names
-- differ and thresholds are at least 1, so a document that breaks this is not a layout.
pub use Rattle.it_docs.specs.Layout.{IsLayout}
-- a step of a layout
pub use Rattle.it_docs.specs.Step.{IsStep}
-- an inspection of a layout
pub use Rattle.it_docs.specs.Step.{IsInspection}
-- the names of steps and inspections, steps first
pub use Rattle.it_docs.specs.Step.{names_of}
-- the threshold of a step; a missing one is 1
pub use Rattle.it_docs.specs.Threshold.{IsThresholdPart}
-- a threshold: a whole number of 64 bits, at least 1
pub use Rattle.it_docs.specs.Threshold.{IsThreshold}
-- a key object in a document
pub use Rattle.it_dsse.specs.KeyObject.{IsKeyObject}
-- the text of a member: empty where it is missing or is not a text (this profile's choice)
pub use Rattle.it_dsse.specs.KeyObject.{text_at}
-- the part is a text that is this moment
pub use Rattle.it_docs.specs.Moment.{IsMoment}
-- the text is this moment, as the number of seconds since 1970-01-01T00:00:00Z: a date of the
-- Gregorian calendar in the years 0000 to 9999, and a time of the day
pub use Rattle.it_docs.specs.Moment.{MomentOf}
-- `YYYY-MM-DDThh:mm:ssZ`
pub use Rattle.it_docs.specs.Moment.{moment_text}
-- a number below a hundred, in two decimal digits
pub use Rattle.it_calendar.specs.Digits.{two_digits_of}
-- the part is a list of texts that are this rule
pub use Rattle.it_docs.specs.Rule.{IsRule}
-- the texts are this rule
pub use Rattle.it_docs.specs.Rule.{RuleOf}
-- a keyword and what follows it
pub use Rattle.it_docs.specs.Rule.{IsShort}
-- the texts are MATCH pattern [IN source] WITH side [IN target] FROM step
pub use Rattle.it_docs.specs.Rule.{MatchOf}
-- the words of a prefix are IN and the prefix; a missing prefix has no words, and is empty
pub use Rattle.it_docs.specs.Rule.{IsPrefix}
-- the text is the keyword of this side
pub use Rattle.it_docs.specs.Rule.{IsSide}
-- the text is this keyword
pub use Rattle.it_docs.specs.Rule.{IsKeyword}
-- whether the text is this keyword
pub use Rattle.it_docs.specs.Rule.{is_keyword}
-- the bytes are a document that is this link
pub use Rattle.it_docs.specs.Link.{LinkOf}
-- a link in a document; missing maps are empty (this profile's choice)
pub use Rattle.it_docs.specs.Link.{IsLink}
-- a digest set in a document: each algorithm's value is the digest under its name; other algorithms
-- are ignored, whatever their value
pub use Rattle.it_digest.specs.Digest.{IsDigestSet}
-- the member of this name is such a digest, or there is no such member
pub use Rattle.it_digest.specs.Digest.{HasDigest}
-- the part is a text of exactly two hexadecimal digits (RFC 4648 section 8, either case) for each
-- of n bytes, and these are the bytes
pub use Rattle.it_digest.specs.Digest.{IsDigest}
-- the bytes are a document that is this Statement
pub use Rattle.it_docs.specs.Statement.{StatementOf}
-- a Statement in a document; where its predicate is not provenance, it has none
pub use Rattle.it_docs.specs.Statement.{IsStatement}
-- the subjects of a Statement
pub use Rattle.it_docs.specs.Statement.{IsSubjects}
-- a subject: an object, whose digest set may be missing and is then empty (this profile's choice)
pub use Rattle.it_docs.specs.Statement.{IsSubject}
-- the provenance of a Statement
pub use Rattle.it_docs.specs.Statement.{IsProvenanceOf}
-- provenance in a document; missing parameters are empty (this profile's choice)
pub use Rattle.it_docs.specs.Statement.{IsProvenance}
-- the builder's id, in provenance
pub use Rattle.it_docs.specs.Statement.{IsBuilder}
-- the part is an object with these members
pub use Rattle.it_base.specs.TreeOf.{IsMembers}
-- the tree under a name
pub use Rattle.it_base.specs.TreeOf.{field_at}
-- the fields that members are
pub use Rattle.it_base.specs.TreeOf.{fields_of}
-- the tree that a part of a document is
pub use Rattle.it_base.specs.TreeOf.{tree_of}
-- the trees that items are
pub use Rattle.it_base.specs.TreeOf.{trees_of}
-- a number that serde_json reads as an integer of 64 bits is whole; every other one is `other`
pub use Rattle.it_base.specs.TreeOf.{number_tree}
-- the bytes are a document that is this policy
pub use Rattle.it_docs.specs.Policy.{PolicyOf}
-- a policy in a document; the type ensures that there is an owner, so a document without one is not
-- a policy
pub use Rattle.it_docs.specs.Policy.{IsPolicy}
-- an expectation of a policy; a pattern is its text
pub use Rattle.it_docs.specs.Policy.{IsExpectation}
-- a builder of an expectation; its keys must be there, and may be empty
pub use Rattle.it_docs.specs.Policy.{IsBuilderOf}
-- the level of a builder or an expectation; a missing one is 0
pub use Rattle.it_docs.specs.Level.{IsLevelPart}
-- a level: a whole number from 0 to 3
pub use Rattle.it_docs.specs.Level.{IsLevel}
-- the files that two digest lists describe together
pub use Rattle.it_digest.specs.Listed.{AreListed}
-- a path is in the map that two maps make together where it is in either of them
pub use Rattle.it_digest.specs.Listed.{AreTogether}
-- what two lists say of one path: the digests of the list that has it, or those of both
pub use Rattle.it_digest.specs.Listed.{listed_digests}
-- the map that a digest list describes
pub use Rattle.it_digest.specs.Sums.{SumsOf}
-- the lines give these entries, one each, and no path occurs twice
pub use Rattle.it_digest.specs.Sums.{AreSums}
-- a line gives this path the digest that its digits encode
pub use Rattle.it_digest.specs.Sums.{IsSum}
-- a line is cut in two: the digits of a digest, which is all that this set has, and this text
pub use Rattle.it_digest.specs.Sums.{IsCut}
-- how many digits a digest has
pub use Rattle.it_digest.specs.Sums.{digit_count}
-- what follows the digits: two spaces, or a space and a star, and then a path, which is not empty
pub use Rattle.it_digest.specs.Sums.{IsMarkedPath}
-- the lines of a file: each ends with a line feed, which the last one may lack
pub use Rattle.it_digest.specs.Sums.{lines_of}
-- the bytes are a document for which P holds with x
pub use Rattle.it_base.specs.Document.{OfDocument}
-- the bytes are the text of this document (JSON as serde_json reads it; this profile's choice)
pub use Rattle.it_base.specs.Document.{IsDocument}
-- the member of this name
pub use Rattle.it_base.specs.Document.{member_at}
-- a member whose value is null counts as missing (this profile's choice)
pub use Rattle.it_base.specs.Document.{present}
-- the member of this name is there, and is this value
pub use Rattle.it_base.specs.Parts.{IsPart}
-- the member of this name is this value, or it is missing and this value is the default
pub use Rattle.it_base.specs.Parts.{IsPartOr}
-- the part is a list, and each of its items is the element at its place
pub use Rattle.it_base.specs.Sequence.{IsList}
-- each item is the element at its place
pub use Rattle.it_base.specs.Sequence.{AreEach}
-- the part is this text
pub use Rattle.it_base.specs.Text.{IsText}
-- the part is an object, and each of its members is the value at the member's name
pub use Rattle.it_base.specs.Table.{IsTable}
-- at each name is the value of its member; a member whose value is null counts as missing (this
-- profile's choice)
pub use Rattle.it_base.specs.Table.{AreMembers}
-- what is at a name: nothing, or a value for which P holds
pub use Rattle.it_base.specs.Table.{Stands as base_Stands}
-- names are compared by their bytes
pub use Rattle.it_base.specs.Table.{Named}
-- a value for which P holds, or none where P holds for no value
pub use Rattle.it_base.specs.Finds.{Finds}
-- the part is a text that encodes these bytes
pub use Rattle.it_base.specs.Base64Text.{IsBase64}
-- the bytes that a text encodes: any dash or underscore selects the alphabet for URLs and file
-- names for the whole text (this profile's choice; DSSE v1.0 allows either alphabet)
pub use Rattle.it_base.specs.Base64Text.{base64_decoded}
-- a byte that only the alphabet for URLs and file names has: a dash or an underscore
pub use Rattle.it_base.specs.Base64Text.{is_url_mark}
-- the bytes that a text encodes, with two digits per byte
pub use Rattle.it_base.specs.HexadecimalText.{hexadecimal_decoded}
