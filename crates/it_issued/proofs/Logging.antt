-- What certificate logs promised, item by item and log by log.
use Rattle.std.proofs.Common.{◌≡◌, ℕ, ◌+◌, ◌*◌, ◌<◌, ◌≤◌, ◌↔◌, pos, Bool, true, false, IsTrue, List, [], ◌∷◌, length, get_or, map, Bor}
use Rattle.std.proofs.Common.{Any, refl, sym, ap, subst, ◌∙◌, arith}
use Rattle.std.proofs.lemmas.List.{get_or-map, get_or_default, length-map}
use Rattle.std.proofs.Common.{inl, inr}
use Rattle.std.proofs.lemmas.Bool.{cases_lt}
use Rattle.std.specs.Int.{w64, from_be_bytes}
use Rattle.it_numbers.specs.Bytes.{big}
use Rattle.it_p256.specs.Signature.{IsSignature}
use Rattle.it_certificate_log.specs.SignedText.{signed_text}
use Rattle.it_certificate_log.specs.Timestamp.{Stamp, TimestampOf}
use Rattle.it_certificate_log.proofs.Stamping.{one_stamp}
use Rattle.it_issued.specs.LogMisses.{HasId, IsInWindow, OfUsable}
use Rattle.it_issued.specs.Logged.{IsByLog}
use Rattle.it_issued.specs.declared.logged.Tie.{Tie}
use Rattle.it_issued.specs.inside.Tied.{IsTiedItem, Tied}
use Rattle.it_issued.proofs.Tests.{refused}
use Rattle.it_log.specs.Window.{LiesIn}
use Rattle.it_log.specs.declared.log.Log.{Log}
use Rattle.it_trust_root.specs.declared.root_log.RootLog.{RootLog}

-- the number that 8 bytes are
pub number_is : (bytes : List ℕ) → length bytes ≡ 8 → from_be_bytes w64 bytes ≡ big bytes
unfolding big
number_is [] h = absurd (omega arith)
number_is (a ∷ []) h = absurd (omega arith)
number_is (a ∷ b ∷ []) h = absurd (omega arith)
number_is (a ∷ b ∷ c ∷ []) h = absurd (omega arith)
number_is (a ∷ b ∷ c ∷ d ∷ []) h = absurd (omega arith)
number_is (a ∷ b ∷ c ∷ d ∷ e ∷ []) h = absurd (omega arith)
number_is (a ∷ b ∷ c ∷ d ∷ e ∷ f ∷ []) h = absurd (omega arith)
number_is (a ∷ b ∷ c ∷ d ∷ e ∷ f ∷ g ∷ []) h = absurd (omega arith)
number_is (a ∷ b ∷ c ∷ d ∷ e ∷ f ∷ g ∷ h ∷ []) eight = omega arith
number_is (a ∷ b ∷ c ∷ d ∷ e ∷ f ∷ g ∷ h ∷ i ∷ xs) eight = absurd (omega arith)

-- the items, as they are shown
abbrev pub shown : List (Bor (List ℕ)) → List (List ℕ)
shown xs = map (λ (i : Bor (List ℕ)). i.now) xs

abbrev pub NoneBefore : (List ℕ → Type 0) → List (Bor (List ℕ)) → ℕ → Type 0
NoneBefore P xs i = (k : ℕ) (d : Bor (List ℕ)) → k < i → P (get_or xs k d).now → ⊥

pub none_more : (P : List ℕ → Type 0) (xs : List (Bor (List ℕ))) (i : ℕ) (e : Bor (List ℕ)) → i < length xs → NoneBefore P xs i
    → (P (get_or xs i e).now → ⊥) → NoneBefore P xs (i + 1)
none_more P xs i e below before none = λ k d h p.
    elim (cases_lt k i) [
      | inl lt ↦ before k d lt p
      | inr ge ↦
          let here : k ≡ i = omega arith in
          let same : get_or xs k d ≡ get_or xs i e = ap (λ (n : ℕ). get_or xs n d) here ∙ get_or_default xs i d e below in
          none (subst (λ (x : Bor (List ℕ)). P x.now) same p)
    ]

pub any_here : (P : List ℕ → Type 0) (xs : List (Bor (List ℕ))) (i : ℕ) (d : Bor (List ℕ)) → i < length xs → P (get_or xs i d).now
    → IsTrue true ↔ Any P (shown xs)
any_here P xs i d below p =
    let long : length (shown xs) ≡ length xs = length-map xs (λ (x : Bor (List ℕ)). x.now) in (
      λ t. (i, (get_or xs i d).now, omega arith, get_or-map (λ (x : Bor (List ℕ)). x.now) xs i d (get_or xs i d).now below, p),
      λ any. refl,
    )

pub none_left : (P : List ℕ → Type 0) (xs : List (Bor (List ℕ))) (i : ℕ) (d : Bor (List ℕ)) → length xs ≤ i → NoneBefore P xs i
    → IsTrue false ↔ Any P (shown xs)
none_left P xs i d end none =
    refused (Any P (shown xs)) (λ any.
    let long : length (shown xs) ≡ length xs = length-map xs (λ (x : Bor (List ℕ)). x.now) in
    let within : any.0 < length xs = omega (arith, any.2) in
    let is : any.1 ≡ (get_or xs any.0 d).now = sym any.3 ∙ get_or-map (λ (x : Bor (List ℕ)). x.now) xs any.0 d any.1 within in
    none any.0 d (omega (arith, any.2)) (subst P is any.4))

-- an item that is a timestamp is tied where that is
pub tied_is : (logs : List RootLog) (issuer_key bare item text : List ℕ) (tie : Tie) (stamp : Stamp) (b : Bool) → TimestampOf item stamp
    → text ≡ signed_text issuer_key bare stamp → IsTrue b ↔ Any (OfUsable (Tied tie text stamp)) logs
    → IsTrue b ↔ IsTiedItem logs issuer_key bare tie item
tied_is logs issuer_key bare item text tie stamp b is text_is iff =
    let of : IsTrue b ↔ Any (OfUsable (Tied tie (signed_text issuer_key bare stamp) stamp)) logs =
    subst (λ (t : List ℕ). IsTrue b ↔ Any (OfUsable (Tied tie t stamp)) logs) text_is iff in (
      λ t. record { stamp = stamp; stamp_is = is; of_log = of.0 t },
      λ item_is. of.1 (subst (λ (s : Stamp). Any (OfUsable (Tied tie (signed_text issuer_key bare s) s)) logs)
          (one_stamp item item_is.stamp stamp item_is.stamp_is is) item_is.of_log),
    )

pub no_stamp : (logs : List RootLog) (issuer_key bare item : List ℕ) (tie : Tie) → ((s : Stamp) → TimestampOf item s → ⊥)
    → IsTrue false ↔ IsTiedItem logs issuer_key bare tie item
no_stamp logs issuer_key bare item tie none =
    refused (IsTiedItem logs issuer_key bare tie item) (λ is. none is.stamp is.stamp_is)

-- a timestamp that has a log's id is in its window, or is by the log
pub in_window_is : (stamp : Stamp) (log : Log) (b : Bool) → HasId stamp log
    → IsTrue b ↔ LiesIn log.window (pos (1_000_000 * big stamp.moment)) → IsTrue b ↔ IsInWindow stamp log
in_window_is stamp log b id iff = (
  λ t. record { id_is = id; trusted = iff.0 t },
  λ is. iff.1 is.trusted,
)

pub by_log_is : (text : List ℕ) (stamp : Stamp) (log : Log) (b : Bool) → IsInWindow stamp log
    → IsTrue b ↔ IsSignature log.key text stamp.signature → IsTrue b ↔ IsByLog text stamp log
by_log_is text stamp log b within iff = (
  λ t. record { id_is = within.id_is; trusted = within.trusted; signed = iff.0 t },
  λ by. iff.1 by.signed,
)
