-- What the signers of a step come to, which are those of the layout's keys that the step lists.
use Rattle.std.proofs.Common.{◌≡◌, ◌<◌, ◌+◌, ℕ, List, [], ◌∷◌, ◌++◌, map, filter, take, drop}
use Rattle.std.proofs.Common.{get_or, length, Bool, true, false, cond, Option, Some, None, inl, inr}
use Rattle.std.proofs.Common.{⊎_elim, Contains, refl, sym, ap, subst, ◌∙◌, append_assoc}
use Rattle.std.specs.FinMap.{entries, get, keys}
use Rattle.std.proofs.lemmas.List.{map-append, take-append-drop}
use Rattle.std.proofs.lemmas.Map.Made.{is_member-Decides}
use Rattle.std.proofs.lemmas.Slice.Eq.{bytes_eq-Decides}
use Rattle.it_base.specs.Places.{NoneAt}
use Rattle.it_dsse.proofs.Keeping.{cut}
use Rattle.it_dsse.specs.declared.key_object.KeyObject.{KeyObject}
use Rattle.it_docs.specs.declared.layout.Layout.{Layout}
use Rattle.it_docs.specs.declared.step.Step.{Step}
use Rattle.it_rules.proofs.Listed.{Contains-map, place_of}
use Rattle.it_chain.specs.Chain.{holds_below}
use Rattle.it_chain.specs.Answer.{signers, with_record}
use Rattle.it_chain.specs.Contents.{Contents}
use Rattle.it_chain.specs.CountedBodies.{Setting}
use Rattle.it_chain.specs.First.{ChainPlace, at_id}
use Rattle.it_chain.specs.Signers.{entry_of}
use Rattle.it_chain.specs.inside.IdRecords.{AreRecords, Gives}
use Rattle.it_chain.specs.inside.Walks.{FailsAt}
use Rattle.it_chain.specs.inside.Below.{StandsAt, fails_below}
use Rattle.it_chain.specs.declared.record.IdRecord.{IdRecord}
use Rattle.it_chain.specs.declared.refusal.ChainError.{ChainError}
use Rattle.it_chain.specs.declared.refusal.ChainError.TheVariants.{Refused, OutOfMemory}
use Rattle.it_chain.specs.declared.refusal.ChainRefusal.{ChainRefusal}
use Rattle.it_chain.specs.declared.signers.Signer.{Signer}
use Rattle.it_chain.proofs.Entries.{entry_known}
use Rattle.it_chain.proofs.Ids.{none_of_given}
use Rattle.it_chain.proofs.Members.{of_filter}
use Rattle.it_chain.proofs.Records.{AreOf, are_records, gives_none, is_listed}
use Rattle.it_chain.proofs.Walks.{apart_below, are_more, fails_before, fails_behind, one_below}

-- ---- a signer
module _ (layout : Layout) (step : Step) (found : List Signer)
    (are : map entry_of found ≡ signers layout step) (signer : Signer)
    (stands : Contains found signer) where
  among : Contains (signers layout step) (entry_of signer)
  among = let place = place_of found signer stands in
      subst (λ es. Contains es (entry_of signer)) are
      (Contains-map entry_of found place.0 signer place.1)

  pub signer_listed : Contains step.pubkeys signer.id.now
  signer_listed = (is_member-Decides bytes_eq-Decides step.pubkeys signer.id.now).0
      ((of_filter (is_listed step) (entries layout.keys) (entry_of signer) among).0)

  pub signer_known : get layout.keys signer.id.now ≡ Some signer.object.now
  signer_known = entry_known layout.keys (entry_of signer)
      ((of_filter (is_listed step) (entries layout.keys) (entry_of signer) among).1)

-- ---- the places of ids
module _ (At : ChainPlace → ChainRefusal → Type 0) (step : Step) where
  abbrev pub ids_of : List (List ℕ × KeyObject) → List ChainPlace
  ids_of es = map (at_id step) (map (λ e. e.0) es)

  none_next : (done : List (List ℕ × KeyObject)) (e : List ℕ × KeyObject) → NoneAt At (ids_of done)
      → NoneAt At (at_id step e.0 ∷ []) → NoneAt At (ids_of (done ++ e ∷ []))
  none_next [] e none last = last
  none_next (d ∷ done) e none last = (none.0, none_next done e none.1 last)

  fails_next : (done : List (List ℕ × KeyObject)) (e : List ℕ × KeyObject)
      (rest : List (List ℕ × KeyObject)) (err : ChainError) → NoneAt At (ids_of done)
      → FailsAt At (at_id step e.0 ∷ []) err → FailsAt At (ids_of (done ++ e ∷ rest)) err
  fails_next [] e rest err none h = fails_before At (at_id step e.0 ∷ []) (ids_of rest) err h
  fails_next (d ∷ done) e rest err none h = fails_behind At (at_id step d.0 ∷ [])
      (ids_of (done ++ e ∷ rest)) err (none.0, tt) (fails_next done e rest err none.1 h)

  -- nothing stands at the ids that the step does not list
  module _ (unlisted : (e : List ℕ × KeyObject) → is_listed step e ≡ false → (r : ChainRefusal)
      → ¬ At (at_id step e.0) r) where
    none_entry : (e : List ℕ × KeyObject) (es : List (List ℕ × KeyObject)) (listed : Bool)
        → is_listed step e ≡ listed
        → NoneAt At (ids_of (cond listed (e ∷ filter (is_listed step) es)
        (filter (is_listed step) es)))
        → (NoneAt At (ids_of (filter (is_listed step) es)) → NoneAt At (ids_of es))
        → NoneAt At (ids_of (e ∷ es))
    none_entry e es true is none rest = (none.0, rest none.1)
    none_entry e es false is none rest = (unlisted e is, rest none)

    pub none_listed : (es : List (List ℕ × KeyObject))
        → NoneAt At (ids_of (filter (is_listed step) es)) → NoneAt At (ids_of es)
    none_listed [] none = none
    none_listed (e ∷ es) none = none_entry e es (is_listed step e) refl none (none_listed es)

    fails_entry : (e : List ℕ × KeyObject) (es : List (List ℕ × KeyObject)) (listed : Bool)
        → is_listed step e ≡ listed → (err : ChainError)
        → FailsAt At (ids_of (cond listed (e ∷ filter (is_listed step) es)
        (filter (is_listed step) es))) err
        → (FailsAt At (ids_of (filter (is_listed step) es)) err → FailsAt At (ids_of es) err)
        → FailsAt At (ids_of (e ∷ es)) err
    fails_entry e es true is (Refused r) h rest =
        ⊎_elim inl (λ later. inr (later.0, rest later.1)) h
    fails_entry e es true is OutOfMemory h rest = tt
    fails_entry e es false is (Refused r) h rest = inr (unlisted e is, rest h)
    fails_entry e es false is OutOfMemory h rest = tt

    pub fails_listed : (es : List (List ℕ × KeyObject)) (err : ChainError)
        → FailsAt At (ids_of (filter (is_listed step) es)) err → FailsAt At (ids_of es) err
    fails_listed [] err h = h
    fails_listed (e ∷ es) err h = fails_entry e es (is_listed step e) refl err h
        (fails_listed es err)

-- ---- the records of signers
module _ (setting : Setting) (depth : ℕ) (layout : Layout) (bundle : Contents) (step : Step) where
  abbrev At : ChainPlace → ChainRefusal → Type 0
  At = StandsAt setting depth layout bundle

  abbrev Of : List (List ℕ × KeyObject) → List IdRecord → Type 0
  Of = AreOf (holds_below setting depth) setting layout bundle step

  of_entry : (e : List ℕ × KeyObject) (es : List (List ℕ × KeyObject)) (listed : Bool)
      (records : List IdRecord) → is_listed step e ≡ listed
      → Of (cond listed (e ∷ filter (is_listed step) es) (filter (is_listed step) es)) records
      → ((rs : List IdRecord) → Of (filter (is_listed step) es) rs → Of es rs) → Of (e ∷ es) records
  of_entry e es true records is h rest = (h.0, h.1, h.2, h.3, rest h.1 h.4)
  of_entry e es false records is h rest = (
    None,
    records,
    refl,
    gives_none (holds_below setting depth) setting layout bundle step e is,
    rest records h,
  )

  of_listed : (es : List (List ℕ × KeyObject)) (records : List IdRecord)
      → Of (filter (is_listed step) es) records → Of es records
  of_listed [] records h = h
  of_listed (e ∷ es) records h = of_entry e es (is_listed step e) records refl h (of_listed es)

  unlisted_none : (e : List ℕ × KeyObject) → is_listed step e ≡ false → (r : ChainRefusal)
      → ¬ At (at_id step e.0) r
  unlisted_none e is = none_of_given (holds_below setting depth) setting layout bundle step
      (fails_below setting depth) (one_below setting depth) (apart_below setting depth) e.0 None
      (gives_none (holds_below setting depth) setting layout bundle step e is)

  -- nothing stands at the ids of signers, of which these are the records
  pub record AreWalked (found : List Signer) (records : List IdRecord) : Type 0 where
    pub none : NoneAt At (ids_of At step (map entry_of found))
    pub are : Of (map entry_of found) records

  pub walked_none : AreWalked [] []
  walked_none = record { none = tt; are = refl }

  module _ (found : List Signer) (i : ℕ) (signer : Signer) (records : List IdRecord)
      (below : i < length found) (here : signer ≡ get_or found i signer)
      (walked : AreWalked (take i found) records) where
    pub walked_more : (given : Option IdRecord) → NoneAt At (at_id step signer.id.now ∷ [])
        → Gives (holds_below setting depth) setting layout bundle step signer.id.now given
        → AreWalked (take (i + 1) found) (records ++ with_record given [])
    walked_more given none gives =
        let more = sym (cut entry_of found i signer below here) in
        record {
          none = subst (λ es. NoneAt At (ids_of At step es)) more
              (none_next At step (map entry_of (take i found)) (entry_of signer) walked.none none);
          are = subst (λ es. Of es (records ++ with_record given [])) more
              (are_more (holds_below setting depth) setting layout bundle step
              (map entry_of (take i found)) records (entry_of signer) given walked.are gives);
        }

    all_around : map entry_of found ≡ map entry_of (take i found) ++ entry_of signer ∷ map entry_of
        (drop (i + 1) found)
    all_around = ap (map entry_of) (sym (take-append-drop (i + 1) found))
        ∙ map-append entry_of (take (i + 1) found) (drop (i + 1) found)
        ∙ ap (λ es. es ++ map entry_of (drop (i + 1) found))
        (cut entry_of found i signer below here) ∙ append_assoc (map entry_of (take i found))
        (entry_of signer ∷ []) (map entry_of (drop (i + 1) found))

    pub walked_fail : (err : ChainError) → map entry_of found ≡ signers layout step
        → FailsAt At (at_id step signer.id.now ∷ []) err
        → FailsAt At (map (at_id step) (keys layout.keys)) err
    walked_fail err are h = fails_listed At step unlisted_none (entries layout.keys) err
        (subst (λ es. FailsAt At (ids_of At step es) err) (sym all_around ∙ are)
        (fails_next At step (map entry_of (take i found)) (entry_of signer)
        (map entry_of (drop (i + 1) found)) err walked.none h))

  pub walked_all : (found : List Signer) (records : List IdRecord)
      → map entry_of found ≡ signers layout step → AreWalked found records
      → NoneAt At (map (at_id step) (keys layout.keys))
      × AreRecords (holds_below setting depth) setting layout bundle step records
  walked_all found records are walked = (
    none_listed At step unlisted_none (entries layout.keys)
        (subst (λ es. NoneAt At (ids_of At step es)) are walked.none),
    are_records (holds_below setting depth) setting layout bundle step records
        (of_listed (entries layout.keys) records (subst (λ es. Of es records) are walked.are)),
  )
