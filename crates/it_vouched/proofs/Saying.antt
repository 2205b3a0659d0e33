-- What lines say of a signature, as a relation.
use Rattle.std.proofs.Common.{◌≡◌, ℕ, List, Bool, true, false, ◌&&◌, IsTrue, Any, nat_eq, refl}
use Rattle.std.specs.Str.{bytes_eq}
use Rattle.std.proofs.lemmas.Bool.Decides.{Decides-eqb}
use Rattle.std.proofs.lemmas.List.Folds.{Any-from_list_any, list_any-from_Any}
use Rattle.std.proofs.lemmas.Slice.Eq.{slice_eq-Decides}
use Rattle.it_identity.specs.Name.{number_of}
use Rattle.it_vouched.specs.Check.{says, vouched_check}
use Rattle.it_vouched.specs.declared.vouched.Vouched.{Vouched}

-- an identity of this number is vouched for, with this message and this signature
pub record Says (n : ℕ) (message signature : List ℕ) (v : Vouched) : Type 0 where
  pub number_is : number_of v.identity ≡ n
  pub message_is : v.message ≡ message
  pub signature_is : v.signature ≡ signature

-- the signature of the message is valid for the key of this number
abbrev pub IsValid : List Vouched → ℕ → List ℕ → List ℕ → Type 0
IsValid vouched n message signature = Any (Says n message signature) vouched

pub both : (a b : Bool) → (a && b) ≡ true → (a ≡ true) × (b ≡ true)
both true true e = (refl, refl)
both true false e = cc
both false b e = cc

pub equal_bytes : (xs ys : List ℕ) → bytes_eq xs ys ≡ true → xs ≡ ys
equal_bytes xs ys e = (slice_eq-Decides Decides-eqb xs ys (bytes_eq xs ys) refl).0 e

pub bytes_equal : (xs ys : List ℕ) → xs ≡ ys → bytes_eq xs ys ≡ true
bytes_equal xs ys e = (slice_eq-Decides Decides-eqb xs ys (bytes_eq xs ys) refl).1 e

said : (n : ℕ) (m s : List ℕ) (v : Vouched) → says n m s v ≡ true → Says n m s v
said n m s v e =
    let signature = both (bytes_eq v.signature s) (bytes_eq v.message m && nat_eq (number_of v.identity) n) e in
    let rest = both (bytes_eq v.message m) (nat_eq (number_of v.identity) n) signature.1 in
    record {
      number_is = (Decides-eqb (number_of v.identity) n).0 rest.1;
      message_is = equal_bytes v.message m rest.0;
      signature_is = equal_bytes v.signature s signature.0;
    }

saying : (n : ℕ) (m s : List ℕ) (v : Vouched) → Says n m s v → says n m s v ≡ true
saying n m s v is =
    rw (bytes_equal v.signature s is.signature_is, bytes_equal v.message m is.message_is)
    ((Decides-eqb (number_of v.identity) n).1 is.number_is)

-- the check's test is the relation
pub valid_is : (vouched : List Vouched) (n : ℕ) (m s : List ℕ) → IsTrue ((vouched_check vouched).is_valid n m s)
    → IsValid vouched n m s
valid_is vouched n m s e =
    let found = Any-from_list_any (says n m s) vouched e in
    (found.0, found.1, found.2, found.3, said n m s found.1 found.4)

pub is_valid : (vouched : List Vouched) (n : ℕ) (m s : List ℕ) → IsValid vouched n m s
    → IsTrue ((vouched_check vouched).is_valid n m s)
is_valid vouched n m s found =
    list_any-from_Any (says n m s) vouched (
      found.0,
      found.1,
      found.2,
      found.3,
      saying n m s found.1 found.4,
    )
