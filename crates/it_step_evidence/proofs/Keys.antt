-- The key ids that count, of the signers of a step.
use Rattle.std.proofs.Common.{◌≡◌, ◌++◌, ◌∷◌, [], ℕ, List, Option, Some, None, Contains, All}
use Rattle.std.proofs.Common.{map, append-nil, refl, sym, subst}
use Rattle.std.specs.FinMap.{entries, entries_sorted}
use Rattle.std.specs.List.{AllZip, cons_option}
use Rattle.std.proofs.lemmas.List.Elements.{All-cons, All-nil}
use Rattle.std.proofs.lemmas.Slice.Zip.{all_zipped_more}
use Rattle.it_base.proofs.Members.{in_head, in_tail}
use Rattle.it_dsse.specs.Panel.{Panel}
use Rattle.it_dsse.specs.declared.key_object.KeyObject.{KeyObject}
use Rattle.it_dsse.proofs.Keeping.{keep_last, pass_last}
use Rattle.it_docs.specs.declared.layout.Layout.{Layout}
use Rattle.it_docs.specs.declared.step.Step.{Step}
use Rattle.it_rules.proofs.Listed.{Contains-from_place, Contains-map, Contains-map_cases, place_of}
use Rattle.it_chain.specs.Answer.{signers}
use Rattle.it_chain.specs.inside.ClaimedFiles.{AreClaimed}
use Rattle.it_chain.specs.Contents.{Contents, files_of}
use Rattle.it_chain.specs.CountedBodies.{Setting}
use Rattle.it_chain.specs.declared.bundle.File.{File}
use Rattle.it_chain.proofs.ClaimedFiles.{in_those, of_those}
use Rattle.it_chain.proofs.Records.{is_listed}
use Rattle.it_chain.proofs.SignerLists.{is_signer, rises_filter}
use Rattle.it_json_report.specs.declared.evidence.CountedKey.{CountedKey}
use Rattle.it_json_report.specs.declared.evidence.StepEvidence.{StepEvidence}
use Rattle.it_step_evidence.specs.CountsBy.{CountsAt, CountsBy, CountsUnder}
use Rattle.it_step_evidence.specs.Exactly.{AreExactly}
use Rattle.it_step_evidence.specs.StepEvidence.{IsStepEvidence}
use Rattle.it_step_evidence.specs.inside.Counting.{AreKeys, IsKey, IsKeyOrNone, IsNameFor}
use Rattle.it_step_evidence.specs.inside.Counting.{IsPlaceFor, SignsSome}
use Rattle.it_step_evidence.proofs.Counting.{counts_name, name_counts, place_counts}
use Rattle.it_step_evidence.proofs.Names.{exactly_alike}
use Rattle.it_step_evidence.proofs.Rising.{ids_rise, rises_those}

-- ---- one signer more
module _ (panel : Panel) (step : List ℕ) (files : List File) where
  pub no_keys : AreKeys panel step files [] []
  no_keys = record { counted = []; are_those = refl; each = tt }

  pub keys_more : (done : List (List ℕ × KeyObject)) (keys : List CountedKey)
      (signer : List ℕ × KeyObject) (found : Option CountedKey) → AreKeys panel step files done keys
      → IsKeyOrNone panel step files signer found
      → AreKeys panel step files (done ++ signer ∷ []) (keys ++ cons_option found [])
  keys_more done keys signer None are none = rw (append-nil keys) (record {
    counted = are.counted;
    are_those = pass_last (SignsSome panel step files) done are.counted signer are.are_those none;
    each = are.each;
  })
  keys_more done keys signer (Some key) are is = record {
    counted = are.counted ++ signer ∷ [];
    are_those = keep_last (SignsSome panel step files) done are.counted signer are.are_those is.0;
    each = all_zipped_more (IsKey panel step files) are.counted keys signer key are.each is.1;
  }

  -- the ids of the keys are those of the signers
  ids_same : (counted : List (List ℕ × KeyObject)) (keys : List CountedKey)
      → AllZip (IsKey panel step files) counted keys
      → map (λ (key : CountedKey). key.id) keys ≡ map (λ (s : List ℕ × KeyObject). s.0) counted
  ids_same [] [] h = refl
  ids_same [] (key ∷ keys) h = absurd h
  ids_same (s ∷ counted) [] h = absurd h
  ids_same (s ∷ counted) (key ∷ keys) h =
      let rest = ids_same counted keys h.1 in
      λ i. h.0.id_is i ∷ rest i

-- a relation side by side gives another that follows from it
zip_weaker : {X Y : Type 0} (R S : X → Y → Type 0) → ((x : X) (y : Y) → R x y → S x y)
    → (xs : List X) (ys : List Y) → AllZip R xs ys → AllZip S xs ys
zip_weaker R S to [] [] h = tt
zip_weaker R S to [] (y ∷ ys) h = absurd h
zip_weaker R S to (x ∷ xs) [] h = absurd h
zip_weaker R S to (x ∷ xs) (y ∷ ys) h = (to x y h.0, zip_weaker R S to xs ys h.1)

-- ---- the keys of a step
module _ (setting : Setting) (layout : Layout) (bundle : Contents) (step : Step)
    (claimed : List File) (are : AreClaimed step.name (files_of bundle) claimed)
    (keys : List CountedKey)
    (are_keys : AreKeys setting.panel step.name claimed (signers layout step) keys) where
  abbrev Signer : Type 0
  Signer = List ℕ × KeyObject

  abbrev Signs : Signer → Type 0
  Signs = SignsSome setting.panel step.name claimed

  abbrev HasKey : Signer → CountedKey → Type 0
  HasKey = IsKey setting.panel step.name claimed

  abbrev counted : List Signer
  counted = are_keys.counted

  abbrev ids : List (List ℕ)
  ids = map (λ (s : Signer). s.0) counted

  same : map (λ (key : CountedKey). key.id) keys ≡ ids
  same = ids_same setting.panel step.name claimed counted keys are_keys.each

  inside : (s : Signer) → Contains counted s → Contains (signers layout step) s
  inside s c = (of_those Signs (signers layout step) counted are_keys.are_those s c).0

  id_counts : (id : List ℕ) → Contains ids id → CountsUnder setting layout bundle step id
  id_counts id c =
      let at = Contains-map_cases (λ (s : Signer). s.0) counted id c in
      let s = at.1 in
      let stands = Contains-from_place counted at.0 s at.2 in
      let some = (of_those Signs (signers layout step) counted are_keys.are_those s stands).1 in
      let known = (is_signer layout step s.0 s.1).0 (inside s stands) in
      let by = name_counts setting layout bundle step claimed are s.0 s.1 known.1 some.0 known.0
      some.1 in
      subst (CountsUnder setting layout bundle step) at.3 (by.payload, by.counted)

  counts_id : (id : List ℕ) → CountsUnder setting layout bundle step id → Contains ids id
  counts_id id counts =
      let c = counts.1 in
      let s : Signer = (id, c.object) in
      let some = counts_name setting layout bundle step claimed are id c.object c.known c.file.name
      (record { payload = counts.0; counted = c; name_is = refl }) in
      let stands = in_those Signs (signers layout step) counted are_keys.are_those s
      ((is_signer layout step id c.object).1 (c.listed, c.known)) (c.file.name, some) in
      let at = place_of counted s stands in
      Contains-map (λ (t : Signer). t.0) counted at.0 s at.1

  ids_are : AreExactly (CountsUnder setting layout bundle step)
      (map (λ (key : CountedKey). key.id) keys)
  ids_are = rw same (record {
    rises = ids_rise counted (rises_those Signs (signers layout step) counted
        (rises_filter (is_listed step) (entries layout.keys) (entries_sorted layout.keys))
        are_keys.are_those);
    those = λ id. (id_counts id, counts_id id);
  })

  abbrev HasFiles : CountedKey → Type 0
  HasFiles key = AreExactly (CountsBy setting layout bundle step key.id) key.files

  files_of_key : (s : Signer) (key : CountedKey) → Contains (signers layout step) s → HasKey s key
      → HasFiles key
  files_of_key s key c is =
      let known = (is_signer layout step s.0 s.1).0 c in
      subst (λ id. AreExactly (CountsBy setting layout bundle step id) key.files) (sym is.id_is)
      (exactly_alike (IsNameFor setting.panel step.name claimed s)
      (CountsBy setting layout bundle step s.0)
      (λ name. name_counts setting layout bundle step claimed are s.0 s.1 known.1 name known.0)
      (λ name. counts_name setting layout bundle step claimed are s.0 s.1 known.1 name) key.files
      is.files_are)

  abbrev HasPlaces : CountedKey → Type 0
  HasPlaces key = AllZip (CountsAt setting layout bundle step key.id) key.files key.signatures

  places_of_key : (s : Signer) (key : CountedKey) → Contains (signers layout step) s → HasKey s key
      → HasPlaces key
  places_of_key s key c is =
      let known = (is_signer layout step s.0 s.1).0 c in
      subst (λ id. AllZip (CountsAt setting layout bundle step id) key.files key.signatures)
      (sym is.id_is)
      (zip_weaker (IsPlaceFor setting.panel step.name claimed s)
      (CountsAt setting layout bundle step s.0)
      (λ name place. place_counts setting layout bundle step claimed are s.0 s.1 known.1 name place
      known.0) key.files key.signatures is.signatures_are)

  all_places : (some : List Signer) (rest : List CountedKey)
      → ((s : Signer) → Contains some s → Contains (signers layout step) s)
      → AllZip HasKey some rest → All HasPlaces rest
  all_places [] [] within h = All-nil HasPlaces
  all_places [] (key ∷ rest) within h = absurd h
  all_places (s ∷ some) [] within h = absurd h
  all_places (s ∷ some) (key ∷ rest) within h =
      All-cons HasPlaces key rest (places_of_key s key (within s (in_head s some)) h.0)
      (all_places some rest (λ t c. within t (in_tail s some t c)) h.1)

  all_files : (some : List Signer) (rest : List CountedKey)
      → ((s : Signer) → Contains some s → Contains (signers layout step) s)
      → AllZip HasKey some rest → All HasFiles rest
  all_files [] [] within h = All-nil HasFiles
  all_files [] (key ∷ rest) within h = absurd h
  all_files (s ∷ some) [] within h = absurd h
  all_files (s ∷ some) (key ∷ rest) within h =
      All-cons HasFiles key rest (files_of_key s key (within s (in_head s some)) h.0)
      (all_files some rest (λ t c. within t (in_tail s some t c)) h.1)

  pub step_evident : (found : StepEvidence) → found.name ≡ step.name → found.keys ≡ keys
      → IsStepEvidence setting layout bundle step found
  step_evident found named is = record {
    name_is = named;
    keys_are = rw is ids_are;
    files_are = rw is (all_files counted keys inside are_keys.each);
    signatures_are = rw is (all_places counted keys inside are_keys.each);
  }
