-- Which signatures are valid.
use Rattle.std.proofs.Common.{◌≡◌, ◌↔◌, ℕ, List, All, Any, IsTrue, subst}
use Rattle.std.specs.List.{Contains}
use Rattle.it_identity.specs.Identity.{IsIdentity, IsOfBytes}
use Rattle.it_identity.specs.Name.{number_of}
use Rattle.it_identity.specs.declared.identity.Identity.{Identity}
use Rattle.it_identity.proofs.Names.{numbers_tell}
use Rattle.it_trust_root.specs.declared.root.TrustedRoot.{TrustedRoot}
use Rattle.it_vouches.proofs.Loops.{any_of_contains, contains_of_any}
use Rattle.it_vouched.specs.Check.{vouched_check}
use Rattle.it_vouched.specs.Line.{AreVouched, LineVouches}
use Rattle.it_vouched.specs.declared.vouched.Vouched.{Vouched}
use Rattle.it_vouched.proofs.Lines.{line_of, valid_where}
use Rattle.it_vouched.proofs.Saying.{IsValid, Says, is_valid, valid_is}

-- an element that says so is of a line that vouches
spoken : (root : TrustedRoot) (line : List ℕ) (v : Vouched) (i : Identity) (m s : List ℕ) → v.identity ≡ i → v.message ≡ m
    → v.signature ≡ s → LineVouches root line v.identity v.message v.signature → LineVouches root line i m s
spoken root line v i m s identity message signature is =
    subst (λ (x : Identity). LineVouches root line x m s) identity
    (subst (λ (x : List ℕ). LineVouches root line v.identity x s) message
    (subst (λ (x : List ℕ). LineVouches root line v.identity v.message x) signature is))

each_of_bytes : (vouched : List Vouched) (v : Vouched) → All (λ v. IsOfBytes v.identity) vouched → Contains vouched v → IsOfBytes v.identity
each_of_bytes vouched v all among =
    subst (λ (x : Vouched). IsOfBytes x.identity) among.2 (all among.0 v among.1)

vouched_where : (root : TrustedRoot) (lines : List (List ℕ)) (vouched : List Vouched) (i : Identity) (m s : List ℕ)
    → AreVouched root lines vouched → All (λ v. IsOfBytes v.identity) vouched → IsIdentity i → IsOfBytes i
    → IsValid vouched (number_of i) m s → Any (λ line. LineVouches root line i m s) lines
vouched_where root lines vouched i m s are all good bytes valid =
    let v = valid.1 in
    let among = contains_of_any (Says (number_of i) m s) vouched valid in
    let of = line_of root lines vouched v are among in
    let says = valid.4 in
    let same = numbers_tell v.identity i of.is.line_vouches.vouches.is_identity good (each_of_bytes vouched v all among) bytes says.number_is in
    any_of_contains (λ line. LineVouches root line i m s) lines of.element of.among
    (spoken root of.element v i m s same says.message_is says.signature_is of.is.line_vouches)

pub valid_means : (root : TrustedRoot) (lines : List (List ℕ)) (vouched : List Vouched) (i : Identity) (m s : List ℕ)
    → AreVouched root lines vouched → All (λ v. IsOfBytes v.identity) vouched → IsIdentity i → IsOfBytes i
    → IsTrue ((vouched_check vouched).is_valid (number_of i) m s) ↔ Any (λ line. LineVouches root line i m s) lines
valid_means root lines vouched i m s are all good bytes = (
  λ t. vouched_where root lines vouched i m s are all good bytes (valid_is vouched (number_of i) m s t),
  λ any. is_valid vouched (number_of i) m s (valid_where root lines vouched any.1 i m s are (contains_of_any (λ line. LineVouches root line i m s) lines any) any.4),
)

-- more lines
more_said : (root : TrustedRoot) (lines more : List (List ℕ)) (vouched wider : List Vouched) → AreVouched root lines vouched
    → AreVouched root more wider → ((line : List ℕ) → Contains lines line → Contains more line)
    → (n : ℕ) (m s : List ℕ) → IsValid vouched n m s → IsValid wider n m s
more_said root lines more vouched wider are others within n m s valid =
    let v = valid.1 in
    let of = line_of root lines vouched v are (contains_of_any (Says n m s) vouched valid) in
    let says = valid.4 in
    let line = spoken root of.element v v.identity m s (λ i. v.identity) says.message_is says.signature_is of.is.line_vouches in
    let there = valid_where root more wider of.element v.identity m s others (within of.element of.among) line in
    subst (λ (x : ℕ). IsValid wider x m s) says.number_is there

pub more_valid : (root : TrustedRoot) (lines more : List (List ℕ)) (vouched wider : List Vouched) → AreVouched root lines vouched
    → AreVouched root more wider → ((line : List ℕ) → Contains lines line → Contains more line)
    → (n : ℕ) (m s : List ℕ) → IsTrue ((vouched_check vouched).is_valid n m s) → IsTrue ((vouched_check wider).is_valid n m s)
more_valid root lines more vouched wider are others within n m s valid =
    is_valid wider n m s (more_said root lines more vouched wider are others within n m s (valid_is vouched n m s valid))
