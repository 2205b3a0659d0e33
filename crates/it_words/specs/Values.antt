-- The values of each command, as the parser found them (this profile's choice).
use Rattle.std.specs.Prelude.{
  ◌≡◌,
  ◌≤◌,
  ◌<◌,
  ◌^◌,
  ℕ,
  List,
  [],
  length,
  Bool,
  true,
  false,
  ◌||◌,
  IsTrue,
  nat_lt,
  Option,
  Some,
  None,
  MatchOption,
  codes,
  is_some,
  unwrap_or,
}
use Rattle.std.specs.Str.Parse.{IsNumeral, digits_value, without_leading_plus}
use Rattle.clap.specs.Walk.{all_of, count_of}
use Rattle.clap.specs.Words.{Row, Text, first_of, one_of}
use Rattle.it_identity.specs.Identity.{IsShort}
use Rattle.it_words.specs.declared.words.check_words.CheckWords.{CheckWords}
use Rattle.it_words.specs.declared.words.digest_words.DigestWords.{DigestWords}
use Rattle.it_words.specs.declared.words.form.AskedOutput.{AskedOutput}
use Rattle.it_words.specs.declared.words.form.AskedOutput.TheVariants.{Report, Summary}
use Rattle.it_words.specs.declared.words.form.Form.{Form}
use Rattle.it_words.specs.declared.words.form.Form.TheVariants.{Lines, Json, Full}
use Rattle.it_words.specs.declared.words.form.SummaryWords.{SummaryWords}
use Rattle.it_words.specs.declared.words.key_words.IdentityWords.{IdentityWords}
use Rattle.it_words.specs.declared.words.key_words.KeySource.{KeySource}
use Rattle.it_words.specs.declared.words.key_words.KeySource.TheVariants.{Files, Identity}
use Rattle.it_words.specs.declared.words.key_words.KeyWords.{KeyWords}
use Rattle.it_words.specs.declared.words.link_words.LinkWords.{LinkWords}
use Rattle.it_words.specs.declared.words.match_words.MatchWords.{MatchWords}
use Rattle.it_words.specs.declared.words.pae_words.PaeWords.{PaeWords}
use Rattle.it_words.specs.declared.words.payload_words.PayloadWords.{PayloadWords}
use Rattle.it_words.specs.declared.words.sign_words.SignBy.{SignBy}
use Rattle.it_words.specs.declared.words.sign_words.SignBy.TheVariants.{Ring as under_ring, Made}
use Rattle.it_words.specs.declared.words.sign_words.SignWords.{SignWords}
use Rattle.it_words.specs.declared.words.signed_words.SignedBy.{SignedBy}
use Rattle.it_words.specs.declared.words.signed_words.SignedBy.TheVariants.{Ring as of_ring}
use Rattle.it_words.specs.declared.words.signed_words.SignedBy.TheVariants.{Keys as of_keys}
use Rattle.it_words.specs.declared.words.signed_words.SignedBy.TheVariants.{Trusted as of_trusted}
use Rattle.it_words.specs.declared.words.signed_words.SignedWords.{SignedWords}
use Rattle.it_words.specs.declared.words.statement_words.StatementWords.{StatementWords}
use Rattle.it_words.specs.declared.words.verify_words.VerifyWords.{VerifyWords}

-- what checks signatures: a ring alone, or keys, and these with a trusted root or without one
abbrev pub IsSignedBy : List Row → SignedBy → Type 0
IsSignedBy values (of_ring path) =
    (first_of (codes "ring") values ≡ Some path) × (first_of (codes "keys") values ≡ None)
    × (first_of (codes "trusted-root") values ≡ None)
IsSignedBy values (of_keys path) =
    (first_of (codes "ring") values ≡ None) × (first_of (codes "keys") values ≡ Some path)
    × (first_of (codes "trusted-root") values ≡ None)
IsSignedBy values (of_trusted paths) =
    (first_of (codes "ring") values ≡ None)
    × (first_of (codes "keys") values ≡ Some paths.keys)
    × (first_of (codes "trusted-root") values ≡ Some paths.root)

-- the values of the command signed
pub record IsSigned (values : List Row) (words : SignedWords) : Type 0 where
  pub envelope : first_of (codes "envelope") values ≡ Some words.envelope
  pub by : IsSignedBy values words.by

-- the values of the command match
pub record IsMatch (values : List Row) (words : MatchWords) : Type 0 where
  pub pattern : first_of (codes "pattern") values ≡ Some words.pattern
  pub path : first_of (codes "path") values ≡ Some words.path

-- the values of the command pae
pub record IsPae (values : List Row) (words : PaeWords) : Type 0 where
  pub body : first_of (codes "body") values ≡ Some words.body
  pub kind : first_of (codes "type") values ≡ Some words.kind

-- what makes a signature: a ring, or it is given with keys, and not one beside the other
abbrev pub IsSignBy : List Row → SignBy → Type 0
IsSignBy values (under_ring path) =
    (first_of (codes "ring") values ≡ Some path) × (first_of (codes "signature") values ≡ None)
    × (first_of (codes "keys") values ≡ None)
IsSignBy values (Made paths) =
    (first_of (codes "ring") values ≡ None)
    × (first_of (codes "signature") values ≡ Some paths.signature)
    × (first_of (codes "keys") values ≡ Some paths.keys)

-- the values of the command sign
pub record IsSign (values : List Row) (words : SignWords) : Type 0 where
  pub body : first_of (codes "body") values ≡ Some words.body
  pub by : IsSignBy values words.by
  pub key : first_of (codes "key") values ≡ Some words.key
  pub kind : first_of (codes "type") values ≡ Some words.kind
  pub onto : first_of (codes "onto") values ≡ words.onto

-- the values of the command digest
pub record IsDigest (values : List Row) (words : DigestWords) : Type 0 where
  pub paths : all_of (codes "path") values ≡ Some words.paths
  pub recursive : words.recursive ≡ nat_lt 0 (count_of (codes "recursive") values)
  pub sha512 : words.sha512 ≡ nat_lt 0 (count_of (codes "sha512") values)

-- the values of the command link
pub record IsLink (values : List Row) (words : LinkWords) : Type 0 where
  pub name : first_of (codes "name") values ≡ Some words.name
  pub materials : first_of (codes "materials") values ≡ words.materials
  pub products : first_of (codes "products") values ≡ words.products

-- the values of the command statement
pub record IsStatement (values : List Row) (words : StatementWords) : Type 0 where
  pub sums : first_of (codes "sums") values ≡ Some words.sums
  pub builder : first_of (codes "builder") values ≡ Some words.builder
  pub build_type : first_of (codes "build-type") values ≡ Some words.build_type
  pub parameters : first_of (codes "parameters") values ≡ words.parameters

-- the values of the command payload
pub record IsPayload (values : List Row) (words : PayloadWords) : Type 0 where
  pub envelope : first_of (codes "envelope") values ≡ Some words.envelope

-- the text writes this number in decimal, as a plus may stand first, and it is at most 8
pub record WritesDepth (text : Text) (depth : ℕ) : Type 0 where
  pub digits : IsNumeral 10 (without_leading_plus text)
  pub number : depth ≡ digits_value 10 (without_leading_plus text)
  pub most : depth ≤ 8

-- the text is there, and writes this depth
abbrev pub IsDepth : Option Text → ℕ → Type 0
IsDepth given depth = MatchOption given ⊥ (λ text. WritesDepth text depth)

-- the text writes this number in decimal, as a plus may stand first, and it is below 2 ^ 64
pub record WritesNumber (text : Text) (number : ℕ) : Type 0 where
  pub digits : IsNumeral 10 (without_leading_plus text)
  pub number_is : number ≡ digits_value 10 (without_leading_plus text)
  pub fits : number < 2 ^ 64

-- the text is there, and writes this number
abbrev pub GivesNumber : Option Text → ℕ → Type 0
GivesNumber given number = MatchOption given ⊥ (λ text. WritesNumber text number)

-- the value of the argument of this name, of 1 to 512 bytes
pub record IsShortValue (values : List Row) (name value : Text) : Type 0 where
  pub value_is : first_of name values ≡ Some value
  pub short : IsShort value

-- the texts of an identity
pub record IsIdentity (values : List Row) (words : IdentityWords) : Type 0 where
  pub name : IsShortValue values (codes "identity") words.name
  pub issuer : IsShortValue values (codes "issuer") words.issuer

-- what keys are made of: files, or an identity, and not one beside the other
abbrev pub IsKeySource : List Row → KeySource → Type 0
IsKeySource values (Files paths) = (all_of (codes "file") values ≡ Some paths)
    × (first_of (codes "identity") values ≡ None) × (first_of (codes "issuer") values ≡ None)
IsKeySource values (Identity words) =
    (all_of (codes "file") values ≡ None) × IsIdentity values words

-- an id is given for one file alone
abbrev pub IsOneOrUnnamed : List Text → Option Text → Type 0
IsOneOrUnnamed files name = MatchOption name (Unit {0}) (λ id. length files ≡ 1)

-- an id is given for one key alone
abbrev pub MayBeNamed : KeySource → Option Text → Type 0
MayBeNamed (Files paths) name = IsOneOrUnnamed paths name
MayBeNamed (Identity words) name = Unit {0}

-- the values of the command key
pub record IsKey (values : List Row) (words : KeyWords) : Type 0 where
  pub source : IsKeySource values words.source
  pub name : first_of (codes "name") values ≡ words.name
  pub may_be_named : MayBeNamed words.source words.name

-- at least one of two values is given
abbrev pub HasEither : Option Text → Option Text → Type 0
HasEither first second = IsTrue (is_some first || is_some second)

-- the values of the command check
pub record IsCheck (values : List Row) (words : CheckWords) : Type 0 where
  pub policy : first_of (codes "policy") values ≡ words.policy
  pub layout : first_of (codes "layout") values ≡ words.layout
  pub has_document : HasEither words.policy words.layout

-- these are the rings of the words, in their order: none where the option is not given, and 8 at
-- most
pub record AreRings (given : Option (List Text)) (rings : List Text) : Type 0 where
  pub same : rings ≡ unwrap_or given []
  pub few : length rings ≤ 8

-- some check of signatures is named: a ring, that of public keys, or a trusted root
abbrev pub HasCheck : List Text → Bool → Option Text → Type 0
HasCheck rings public_keys root = IsTrue (nat_lt 0 (length rings) || public_keys || is_some root)

-- the form in which the report is asked for: in lines where nothing is given, as JSON where 1 is
-- given, and as JSON with what is found and noted where 2 is
abbrev pub IsForm : Option Text → Form → Type 0
IsForm given Lines = given ≡ None
IsForm given Json = GivesNumber given 1
IsForm given Full = GivesNumber given 2

-- the words of a summary: who verifies, and what is verified, and no form of the report
pub record IsSummary (values : List Row) (words : SummaryWords) : Type 0 where
  pub no_form : one_of (codes "json") values ≡ None
  pub verifier : first_of (codes "verifier") values ≡ Some words.verifier
  pub resource : first_of (codes "resource") values ≡ Some words.resource

-- the form of the report, with no word of a summary
pub record IsReport (values : List Row) (form : Form) : Type 0 where
  pub no_verifier : first_of (codes "verifier") values ≡ None
  pub no_resource : first_of (codes "resource") values ≡ None
  pub form_is : IsForm (one_of (codes "json") values) form

-- whether a summary is asked for
abbrev pub asks_summary : List Row → Bool
asks_summary values = nat_lt 0 (count_of (codes "summary") values)

-- what is asked for: a report, or a summary
abbrev pub IsAsked : List Row → AskedOutput → Type 0
IsAsked values (Report form) = (asks_summary values ≡ false) × IsReport values form
IsAsked values (Summary words) = (asks_summary values ≡ true) × IsSummary values words

-- the values of the command verify
pub record IsVerify (values : List Row) (words : VerifyWords) : Type 0 where
  pub policy : first_of (codes "policy") values ≡ Some words.policy
  pub layout : first_of (codes "layout") values ≡ Some words.layout
  pub links : first_of (codes "links") values ≡ Some words.links
  pub sums : first_of (codes "sums") values ≡ words.sums
  pub sums512 : first_of (codes "sums512") values ≡ words.sums512
  pub has_list : HasEither words.sums words.sums512
  pub at : first_of (codes "at") values ≡ Some words.at
  pub rings : AreRings (all_of (codes "ring") values) words.rings
  pub public_keys : words.public_keys ≡ nat_lt 0 (count_of (codes "public-keys") values)
  pub trusted_root : first_of (codes "trusted-root") values ≡ words.trusted_root
  pub output : IsAsked values words.output
  pub strict : words.strict ≡ (nat_lt 0 (count_of (codes "strict") values) || asks_summary values)
  pub has_check : HasCheck words.rings words.public_keys words.trusted_root
  pub provenance : first_of (codes "provenance") values ≡ words.provenance
  pub records : first_of (codes "records") values ≡ words.records
  pub depth : IsDepth (one_of (codes "depth") values) words.depth
  pub most_checks : GivesNumber (one_of (codes "most-checks") values) words.most_checks
