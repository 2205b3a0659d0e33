-- The names of files that hold a body, and the places of the signatures in them.
use Rattle.std.proofs.Common.{◌≡◌, ◌≢◌, ◌∙◌, ℕ, List, [], ◌∷◌, Contains, Option, None, Some, length}
use Rattle.std.proofs.Common.{map, nat_cmp, refl, sym, ap, subst}
use Rattle.std.specs.Cmp.Lexicographic.{slice_cmp}
use Rattle.std.specs.FinMap.{empty, empty_of_len, entries, entries_sorted, get, get-empty}
use Rattle.std.specs.FinMap.{len-entries}
use Rattle.std.specs.List.{AllZip}
use Rattle.it_base.specs.Finds.{Finds}
use Rattle.it_base.specs.Table.{Named}
use Rattle.it_base.proofs.Members.{in_head, in_tail}
use Rattle.it_dsse.specs.Panel.{Panel}
use Rattle.it_dsse.specs.declared.key_object.KeyObject.{KeyObject}
use Rattle.it_rules.proofs.Listed.{Contains-from_place, Contains-map, Contains-map_cases, place_of}
use Rattle.it_chain.specs.declared.bundle.File.{File}
use Rattle.it_chain.proofs.Entries.{entry_known, known_entry}
use Rattle.it_step_evidence.specs.Exactly.{AreExactly}
use Rattle.it_step_evidence.specs.inside.Counting.{ArePlaces, IsNameFor, IsPlaceFor, SignsSome}
use Rattle.it_step_evidence.proofs.Counting.{held_body}
use Rattle.it_step_evidence.proofs.Rising.{ids_rise, rises_all}
use Rattle.it_valid_signatures.proofs.FirstSigned.{signed_placed}

-- the same texts, where each of two facts gives the other
pub exactly_alike : (P Q : List ℕ → Type 0) → ((text : List ℕ) → P text → Q text)
    → ((text : List ℕ) → Q text → P text) → (texts : List (List ℕ)) → AreExactly P texts
    → AreExactly Q texts
exactly_alike P Q to from texts are = record {
  rises = are.rises;
  those = λ text. (
    λ c. to text ((are.those text).0 c),
    λ q. (are.those text).1 (from text q),
  );
}

module _ (panel : Panel) (step : List ℕ) (files : List File) (signer : List ℕ × KeyObject) where
  abbrev Names : List ℕ → Type 0
  Names = IsNameFor panel step files signer

  abbrev Places : List ℕ → ℕ → Type 0
  Places = IsPlaceFor panel step files signer

  placed_name : (name : List ℕ) (place : ℕ) → Places name place → Names name
  placed_name name place is = record {
    file = is.file;
    stands = is.stands;
    name_is = is.name_is;
    holds = held_body panel step signer.0 signer.1 is.file place is.holds;
  }

  named_place : (name : List ℕ) → Names name → (place : ℕ) × Places name place
  named_place name is =
      let h = is.holds in
      let at = signed_placed panel h.envelope signer.0 signer.1 h.signed.0 h.signed.1 in (
        at.0,
        record {
          file = is.file;
          stands = is.stands;
          name_is = is.name_is;
          holds = record {
            envelope = h.envelope;
            body = h.body;
            is_candidate = h.is_candidate;
            signed = at.1;
            reads = h.reads;
          };
        },
      )

  zip_each : (es : List (List ℕ × ℕ)) → ((e : List ℕ × ℕ) → Contains es e → Places e.0 e.1)
      → AllZip Places (map (λ e. e.0) es) (map (λ e. e.1) es)
  zip_each [] each = tt
  zip_each (e ∷ es) each =
      (each e (in_head e es), zip_each es (λ f c. each f (in_tail e es f c)))

  module _ (places : Named ℕ) (are : ArePlaces panel step files signer places) where
    abbrev name_of : List ℕ × ℕ → List ℕ
    name_of entry = entry.0

    placed : (e : List ℕ × ℕ) → Contains (entries places) e → Places e.0 e.1
    placed e c = subst (Finds (Places e.0)) (entry_known places e c) (are e.0)

    name_kept : (name : List ℕ) → Contains (map name_of (entries places)) name → Names name
    name_kept name c =
        let at = Contains-map_cases name_of (entries places) name c in
        let stands = Contains-from_place (entries places) at.0 at.1 at.2 in
        subst Names at.3 (placed_name at.1.0 at.1.1 (placed at.1 stands))

    got : (name : List ℕ) (place : ℕ) → Places name place → (found : Option ℕ)
        → get places name ≡ found → Finds (Places name) found
        → (n : ℕ) × (get places name ≡ Some n)
    got name place is None same none = absurd (none place is)
    got name place is (Some n) same some = (n, same)

    kept_name : (name : List ℕ) → Names name → Contains (map name_of (entries places)) name
    kept_name name is =
        let there = named_place name is in
        let found = got name there.0 there.1 (get places name) refl (are name) in
        let stands = known_entry places name found.0 found.1 in
        let at = place_of (entries places) (name, found.0) stands in
        Contains-map name_of (entries places) at.0 (name, found.0) at.1

    pub names_are : AreExactly Names (map (λ entry. entry.0) (entries places))
    names_are = record {
      rises = ids_rise (entries places) (rises_all (entries places) (entries_sorted places));
      those = λ name. (name_kept name, kept_name name);
    }

    pub places_are : AllZip Places (map (λ entry. entry.0) (entries places))
        (map (λ entry. entry.1) (entries places))
    places_are = zip_each (entries places) placed

    pub none_signed : places ≡ empty → ¬ SignsSome panel step files signer
    none_signed none some =
        let there = named_place some.0 some.1 in
        let missing : get places some.0 ≡ None = ap (λ (m : Named ℕ). get m some.0) none
        ∙ get-empty (slice_cmp nat_cmp) some.0 in
        (subst (Finds (Places some.0)) missing (are some.0)) there.0 there.1

    some_of : (es : List (List ℕ × ℕ)) → entries places ≡ es → places ≢ empty
        → SignsSome panel step files signer
    some_of [] same some =
        absurd (some (empty_of_len places (len-entries places ∙ ap length same)))
    some_of (e ∷ es) same some =
        let stands = subst (λ (xs : List (List ℕ × ℕ)). Contains xs e) (sym same) (in_head e es) in
        (e.0, placed_name e.0 e.1 (placed e stands))

    pub some_signed : places ≢ empty → SignsSome panel step files signer
    some_signed = some_of (entries places) refl
