-- What a leaf misses where no certificate log promised to log it.
use Rattle.std.proofs.Common.{◌≡◌, ◌↔◌, ℕ, zero, suc, ◌+◌, Option, Some, None, List, Any, refl, sym, ap, subst, ◌∙◌}
use Rattle.it_certificate.specs.Certificate.{Facts}
use Rattle.it_certificate.specs.Identifiers.{timestamps}
use Rattle.it_certificate.specs.Values.{value_of}
use Rattle.it_certificate_log.specs.Bare.{bare_bytes}
use Rattle.it_certificate_log.specs.Items.{IsItemList}
use Rattle.it_certificate_log.specs.SignedText.{signed_text}
use Rattle.it_certificate_log.specs.Timestamp.{Stamp}
use Rattle.it_certificate_log.proofs.Listing.{one_list}
use Rattle.it_issued.specs.LogMisses.{HasId, HasItem, HasValue, IsInWindow, IsLogShortfall, IsStampOf, LogMisses, MeetsLog as Met, OfUsable, log_place}
use Rattle.it_issued.specs.Logged.{IsByListed, IsByLog, IsLogged, IsPromise}
use Rattle.it_issued.specs.Signature.{key_info}
use Rattle.it_issued.specs.declared.logged.Tie.TheVariants as ties
use Rattle.it_issued.specs.declared.shortfall.LogShortfall.{LogShortfall}
use Rattle.it_issued.specs.declared.shortfall.LogShortfall.TheVariants as shortfalls
use Rattle.it_issued.specs.inside.Tied.{AreShort, HaveTied, IsTiedItem}
use Rattle.it_issued.proofs.Missed.{HaveOwnPlaces, MetBelow, none_below, one_missed, one_more}
use Rattle.it_log.specs.declared.log.Log.{Log}
use Rattle.it_trust_root.specs.declared.root_log.RootLog.{RootLog}
use Rattle.it_trust_root.specs.declared.root_log.RootLog.TheVariants.{Usable, PassedOver}

-- ---- places
abbrev at_place : ℕ → LogShortfall
at_place zero = shortfalls.Missing
at_place (suc zero) = shortfalls.Form
at_place (suc (suc zero)) = shortfalls.Log
at_place (suc (suc (suc zero))) = shortfalls.Window
at_place (suc (suc (suc (suc n)))) = shortfalls.Signature

at_its_place : (s : LogShortfall) → at_place (log_place s) ≡ s
at_its_place shortfalls.Missing = refl
at_its_place shortfalls.Form = refl
at_its_place shortfalls.Log = refl
at_its_place shortfalls.Window = refl
at_its_place shortfalls.Signature = refl

pub own_places : HaveOwnPlaces LogShortfall log_place
own_places = λ s t same. sym (at_its_place s) ∙ ap at_place same ∙ at_its_place t

-- ---- what is met
abbrev pub Below : List RootLog → Facts → Facts → ℕ → Type 0
Below logs issuer leaf n = MetBelow LogShortfall log_place (Met logs issuer leaf) n

more : (logs : List RootLog) (issuer leaf : Facts) (s : LogShortfall) → Met logs issuer leaf s → Below logs issuer leaf (log_place s)
    → Below logs issuer leaf (log_place s + 1)
more logs issuer leaf s met before = one_more LogShortfall log_place (Met logs issuer leaf) own_places s met before

below_form : (logs : List RootLog) (issuer leaf : Facts) → Met logs issuer leaf shortfalls.Missing → Below logs issuer leaf 1
below_form logs issuer leaf some =
    more logs issuer leaf shortfalls.Missing some (none_below LogShortfall log_place (Met logs issuer leaf))

below_log : (logs : List RootLog) (issuer leaf : Facts) → Met logs issuer leaf shortfalls.Missing → Met logs issuer leaf shortfalls.Form
    → Below logs issuer leaf 2
below_log logs issuer leaf some read = more logs issuer leaf shortfalls.Form read (below_form logs issuer leaf some)

-- ---- what ties a timestamp to a log
usable_of : (P Q : Log → Type 0) → ((l : Log) → P l → Q l) → (l : RootLog) → OfUsable P l → OfUsable Q l
usable_of P Q to (Usable log) of = to log of
usable_of P Q to (PassedOver reason) of = absurd of

some_of : {X : Type 0} (P Q : X → Type 0) (xs : List X) → ((x : X) → P x → Q x) → Any P xs → Any Q xs
some_of P Q xs to any = (any.0, any.1, any.2, any.3, to any.1 any.4)

stamps_of : (logs : List RootLog) (P Q : Stamp → Log → Type 0) → ((s : Stamp) (l : Log) → P s l → Q s l) → (item : List ℕ)
    → IsStampOf logs P item → IsStampOf logs Q item
stamps_of logs P Q to item is = record {
  stamp = is.stamp;
  stamp_is = is.stamp_is;
  of_log = some_of (OfUsable (P is.stamp)) (OfUsable (Q is.stamp)) logs (usable_of (P is.stamp) (Q is.stamp) (to is.stamp)) is.of_log;
}

-- items that are signed by a log are from a moment in its window, and these have its id
in_window : (logs : List RootLog) (key bare : List ℕ) (items : List (List ℕ)) → HaveTied logs key bare items ties.Signature
    → HaveTied logs key bare items ties.Window
in_window logs key bare items signed =
    some_of (IsTiedItem logs key bare ties.Signature) (IsTiedItem logs key bare ties.Window) items
    (stamps_of logs (λ s. IsByLog (signed_text key bare s) s) IsInWindow (λ s l by. record { id_is = by.id_is; trusted = by.trusted })) signed

with_id : (logs : List RootLog) (key bare : List ℕ) (items : List (List ℕ)) → HaveTied logs key bare items ties.Window
    → HaveTied logs key bare items ties.Id
with_id logs key bare items within =
    some_of (IsTiedItem logs key bare ties.Window) (IsTiedItem logs key bare ties.Id) items
    (stamps_of logs IsInWindow HasId (λ s l by. by.id_is)) within

listed_by : (text : List ℕ) (stamp : Stamp) (l : RootLog) → OfUsable (IsByLog text stamp) l ↔ IsByListed text stamp l
listed_by text stamp (Usable log) = (λ by. by, λ by. by)
listed_by text stamp (PassedOver reason) = (λ by. by, λ by. by)

promises : (logs : List RootLog) (key bare item : List ℕ) → IsTiedItem logs key bare ties.Signature item ↔ IsPromise logs key bare item
promises logs key bare item = (
  λ is. record {
    stamp = is.stamp;
    stamp_is = is.stamp_is;
    by_log = some_of (OfUsable (IsByLog (signed_text key bare is.stamp) is.stamp)) (IsByListed (signed_text key bare is.stamp) is.stamp) logs
        (λ l. (listed_by (signed_text key bare is.stamp) is.stamp l).0) is.of_log;
  },
  λ is. record {
    stamp = is.stamp;
    stamp_is = is.stamp_is;
    of_log = some_of (IsByListed (signed_text key bare is.stamp) is.stamp) (OfUsable (IsByLog (signed_text key bare is.stamp) is.stamp)) logs
        (λ l. (listed_by (signed_text key bare is.stamp) is.stamp l).1) is.by_log;
  },
)

-- ---- by the items of a leaf
same_value : (one two : List ℕ) → Some one ≡ Some two → one ≡ two
same_value one two e = cc

no_value : (value : List ℕ) → None ≡ Some value → ⊥
no_value value e = cc

-- a leaf's timestamps, as they are read
pub record HasItems (leaf : Facts) (items : List (List ℕ)) : Type 0 where
  pub value : List ℕ
  pub value_is : Some value ≡ value_of timestamps leaf.extensions
  pub items_are : IsItemList value items

same_items : (leaf : Facts) (items others : List (List ℕ)) (value : List ℕ) → HasItems leaf items → value_of timestamps leaf.extensions ≡ Some value
    → IsItemList value others → others ≡ items
same_items leaf items others value has value_is are =
    one_list has.value others items
    (subst (λ (v : List ℕ). IsItemList v others) (sym (same_value has.value value (has.value_is ∙ value_is))) are) has.items_are

has_item : (leaf : Facts) (items : List (List ℕ)) (P : List ℕ → Type 0) → HasItems leaf items → HasValue leaf (HasItem P) ↔ Any P items
has_item leaf items P has = (
  λ of. subst (Any P) (same_items leaf items of.is.items of.value has of.value_is of.is.items_are) of.is.some,
  λ any. record {
    value = has.value;
    value_is = sym has.value_is;
    is = record { items = items; items_are = has.items_are; some = any };
  },
)

logged : (logs : List RootLog) (issuer leaf : Facts) (items : List (List ℕ)) → HasItems leaf items
    → IsLogged logs issuer leaf ↔ HaveTied logs (key_info issuer.curve issuer.coordinates) (bare_bytes leaf) items ties.Signature
logged logs issuer leaf items has =
    let key = key_info issuer.curve issuer.coordinates in
    let bare = bare_bytes leaf in (
      λ is. some_of (IsPromise logs key bare) (IsTiedItem logs key bare ties.Signature) items (λ i. (promises logs key bare i).1)
          (subst (Any (IsPromise logs key bare)) (same_items leaf items is.items is.value has is.value_is is.items_are) is.promised),
      λ any. record {
        value = has.value;
        items = items;
        value_is = sym has.value_is;
        items_are = has.items_are;
        promised = some_of (IsTiedItem logs key bare ties.Signature) (IsPromise logs key bare) items
            (λ i. (promises logs key bare i).0) any;
      },
    )

-- ---- what is missed
pub no_timestamps : (logs : List RootLog) (issuer leaf : Facts) → None ≡ value_of timestamps leaf.extensions
    → IsLogShortfall logs issuer leaf (Some shortfalls.Missing)
no_timestamps logs issuer leaf none = (
  λ is. no_value is.value (none ∙ is.value_is),
  record {
    missed = λ has. no_value has.value (none ∙ has.value_is);
    before = none_below LogShortfall log_place (Met logs issuer leaf);
  },
)

pub no_items : (logs : List RootLog) (issuer leaf : Facts) (value : List ℕ) → Some value ≡ value_of timestamps leaf.extensions
    → ((items : List (List ℕ)) → ¬ IsItemList value items) → IsLogShortfall logs issuer leaf (Some shortfalls.Form)
no_items logs issuer leaf value is none =
    let of : (v : List ℕ) (items : List (List ℕ)) → value_of timestamps leaf.extensions ≡ Some v → ¬ IsItemList v items =
    λ v items v_is are. none items (subst (λ (x : List ℕ). IsItemList x items) (sym (same_value value v (is ∙ v_is))) are) in (
      λ logged. of logged.value logged.items logged.value_is logged.items_are,
      record {
        missed = λ has. of has.value has.is.0 has.value_is has.is.1;
        before = below_form logs issuer leaf (record { value = value; value_is = sym is; is = tt });
      },
    )

below_items : (logs : List RootLog) (issuer leaf : Facts) (items : List (List ℕ)) → HasItems leaf items → Below logs issuer leaf 2
below_items logs issuer leaf items has =
    below_log logs issuer leaf (record { value = has.value; value_is = sym has.value_is; is = tt })
    (record { value = has.value; value_is = sym has.value_is; is = (items, has.items_are) })

short : (logs : List RootLog) (issuer leaf : Facts) (items : List (List ℕ)) (o : Option LogShortfall) → HasItems leaf items
    → AreShort logs (key_info issuer.curve issuer.coordinates) (bare_bytes leaf) items o → IsLogShortfall logs issuer leaf o
short logs issuer leaf items None has are = (logged logs issuer leaf items has).1 are
short logs issuer leaf items (Some shortfalls.Missing) has are = absurd are
short logs issuer leaf items (Some shortfalls.Form) has are = absurd are
short logs issuer leaf items (Some shortfalls.Log) has are =
    let key = key_info issuer.curve issuer.coordinates in
    let bare = bare_bytes leaf in (
      λ is. are (with_id logs key bare items (in_window logs key bare items ((logged logs issuer leaf items has).0 is))),
      record {
        missed = λ of. are ((has_item leaf items (IsStampOf logs HasId) has).0 of);
        before = below_items logs issuer leaf items has;
      },
    )
short logs issuer leaf items (Some shortfalls.Window) has are =
    let key = key_info issuer.curve issuer.coordinates in
    let bare = bare_bytes leaf in (
      λ is. are.1 (in_window logs key bare items ((logged logs issuer leaf items has).0 is)),
      record {
        missed = λ of. are.1 ((has_item leaf items (IsStampOf logs IsInWindow) has).0 of);
        before = more logs issuer leaf shortfalls.Log ((has_item leaf items (IsStampOf logs HasId) has).1 are.0)
            (below_items logs issuer leaf items has);
      },
    )
short logs issuer leaf items (Some shortfalls.Signature) has are = (
  λ is. are.2 ((logged logs issuer leaf items has).0 is),
  record {
    missed = λ is. are.2 ((logged logs issuer leaf items has).0 is);
    before = more logs issuer leaf shortfalls.Window ((has_item leaf items (IsStampOf logs IsInWindow) has).1 are.1)
        (more logs issuer leaf shortfalls.Log ((has_item leaf items (IsStampOf logs HasId) has).1 are.0)
        (below_items logs issuer leaf items has));
  },
)

pub shown_short : (logs : List RootLog) (issuer leaf : Facts) (items : List (List ℕ)) (key bare : List ℕ) (o : Option LogShortfall)
    → HasItems leaf items → key ≡ key_info issuer.curve issuer.coordinates → bare ≡ bare_bytes leaf → AreShort logs key bare items o
    → IsLogShortfall logs issuer leaf o
shown_short logs issuer leaf items key bare o has key_is bare_is are =
    short logs issuer leaf items o has
    (subst (λ (b : List ℕ). AreShort logs (key_info issuer.curve issuer.coordinates) b items o) bare_is
    (subst (λ (k : List ℕ). AreShort logs k bare items o) key_is are))

-- a leaf misses at most one condition
pub one_log_missed : (logs : List RootLog) (issuer leaf : Facts) (s t : LogShortfall) → LogMisses logs issuer leaf s → LogMisses logs issuer leaf t
    → s ≡ t
one_log_missed logs issuer leaf s t one two = one_missed LogShortfall log_place (Met logs issuer leaf) own_places s t one two
