-- The first part of a trusted root that fails.
use Rattle.std.proofs.Common.{◌≡◌, ℕ, zero, suc, ◌+◌, ◌<◌, ◌≤◌, List, [], ◌∷◌, length, Option, Some, None}
use Rattle.std.proofs.Common.{MatchOption, Result, Ok, Err, MatchResult, IfErr, IsTrue, is_some, option_and_then}
use Rattle.std.proofs.Common.{codes, inl, inr, refl, sym, ap, subst, arith}
use Rattle.serde_json.specs.Data.{Data, Items, no_items, item, array, object}
use Rattle.serde_json.specs.Find.{as_array, as_object, get_item}
use Rattle.it_base.specs.Document.{IsDocument, member_at}
use Rattle.it_base.specs.List.{IsFirstBad, IsListOrMissing, PartItemReads, items_at}
use Rattle.it_base.specs.Parts.{IsPartOr}
use Rattle.it_base.specs.Sequence.{AreEach, IsList}
use Rattle.it_base.proofs.Documents.{same_document}
use Rattle.it_base.proofs.Lists.{item_fault, list_reads}
use Rattle.it_docs.specs.FirstPart.{IsFirstPart, Precedes}
use Rattle.it_trust_root.specs.Authority.{IsAuthority}
use Rattle.it_trust_root.specs.Log.{IsRootLog}
use Rattle.it_trust_root.specs.Root.{IsMediaType, IsRoot, RootOf}
use Rattle.it_trust_root.specs.RootPart.{ListReads, PartReads, RootPartOf, list_place, place, row_of}
use Rattle.it_trust_root.specs.ShortList.{IsShortList}
use Rattle.it_trust_root.specs.inside.ListFaults.{IsFaultIn, IsRootFault}
use Rattle.it_trust_root.specs.declared.root.TrustedRoot.{TrustedRoot}
use Rattle.it_trust_root.specs.declared.root_part.ListPart.{ListPart}
use Rattle.it_trust_root.specs.declared.root_part.ListPart.TheVariants.{Whole, Element, Count}
use Rattle.it_trust_root.specs.declared.root_part.RootFault.{RootFault}
use Rattle.it_trust_root.specs.declared.root_part.RootFault.TheVariants.{BadRoot, OutOfMemory}
use Rattle.it_trust_root.specs.declared.root_part.RootList.{RootList}
use Rattle.it_trust_root.specs.declared.root_part.RootList.TheVariants.{Logs, Authorities}
use Rattle.it_trust_root.specs.declared.root_part.RootList.TheVariants.{CertificateLogs}
use Rattle.it_trust_root.specs.declared.root_part.RootPart.{RootPart}
use Rattle.it_trust_root.specs.declared.root_part.RootPart.TheVariants.{Json, MediaType, In}

-- ---- how many elements a list has
item_at : {X : Type 0} (P : Data → X → Type 0) (ds : Items) (xs : List X) (n : ℕ) → AreEach P ds xs
    → n < length xs → get_item n ds ≡ None → ⊥
item_at P no_items [] n h below e = absurd (omega arith)
item_at P no_items (x ∷ xs) n h below e = h
item_at P (item d ds) [] n h below e = h
item_at P (item d ds) (x ∷ xs) zero h below e = let clash : Some d ≡ None = e in absurd (cc)
item_at P (item d ds) (x ∷ xs) (suc n) h below e = item_at P ds xs n h.1 (omega arith) e

no_item_at : {X : Type 0} (P : Data → X → Type 0) (ds : Items) (xs : List X) (n : ℕ)
    → AreEach P ds xs → length xs ≤ n → get_item n ds ≡ None
no_item_at P no_items [] n h most = refl
no_item_at P no_items (x ∷ xs) n h most = absurd h
no_item_at P (item d ds) [] n h most = absurd h
no_item_at P (item d ds) (x ∷ xs) zero h most = absurd (omega arith)
no_item_at P (item d ds) (x ∷ xs) (suc n) h most = no_item_at P ds xs n h.1 (omega arith)

count_fails : {X : Type 0} (P : Data → X → Type 0) (found : Option Data) (xs : List X)
    → MatchOption found (xs ≡ []) (λ v. IsList P v xs) → 64 < length xs
    → MatchOption (option_and_then as_array found) (Unit {0}) (λ items. get_item 64 items ≡ None) → ⊥
count_fails P None xs h many e =
    let long : length xs ≡ 0 = ap length h in absurd (omega arith)
count_fails P (Some (array ds)) xs h many e = item_at P ds xs 64 h many e
count_fails P (Some d) xs h many e = absurd h

count_reads : {X : Type 0} (P : Data → X → Type 0) (found : Option Data) (xs : List X)
    → MatchOption found (xs ≡ []) (λ v. IsList P v xs) → length xs ≤ 64
    → MatchOption (option_and_then as_array found) (Unit {0}) (λ items. get_item 64 items ≡ None)
count_reads P None xs h few = tt
count_reads P (Some (array ds)) xs h few = no_item_at P ds xs 64 h few
count_reads P (Some d) xs h few = absurd h

-- ---- lists
module _ {X : Type 0} (P : Data → X → Type 0) (name : List ℕ) (d : Data) where
  -- each part of a list that was read reads
  pub list_parts : (xs : List X) → IsShortList P name d xs → (part : ListPart)
      → ListReads P name d part
  list_parts xs h Whole = (list_reads P name d xs h.part_is).0
  list_parts xs h (Element n) = (list_reads P name d xs h.part_is).1 n
  list_parts xs h Count = count_reads P (member_at name d) xs h.part_is h.few

  nothing_before : (other : ListPart) → Precedes (list_place 0 other) (0, 0) → ListReads P name d other
  nothing_before other (inl h) = absurd (omega arith)
  nothing_before other (inr h) = absurd (omega (arith, h.1))

  pub whole_first : ¬ IsListOrMissing name d → IsFirstPart (list_place 0) (ListReads P name d) Whole
  whole_first none = record { fails = none; before = nothing_before }

  before_element : (n : ℕ) → IsListOrMissing name d → ((m : ℕ) → m < n → PartItemReads P name d m)
      → (other : ListPart) → Precedes (list_place 0 other) (1, n) → ListReads P name d other
  before_element n list before Whole less = list
  before_element n list before (Element m) (inl h) = absurd (omega arith)
  before_element n list before (Element m) (inr h) = before m h.1
  before_element n list before Count (inl h) = absurd (omega arith)
  before_element n list before Count (inr h) = absurd (omega (arith, h.0))

  pub element_first : (n : ℕ) → MatchOption (items_at name d) ⊥ (λ items. IsFirstBad P items n)
      → IsFirstPart (list_place 0) (ListReads P name d) (Element n)
  element_first n bad =
      let facts = item_fault P name d n bad in
      record { fails = facts.1; before = before_element n facts.0 facts.2 }

  before_count : IsListOrMissing name d → ((n : ℕ) → PartItemReads P name d n) → (other : ListPart)
      → Precedes (list_place 0 other) (2, 0) → ListReads P name d other
  before_count list items Whole less = list
  before_count list items (Element n) less = items n
  before_count list items Count (inl h) = absurd (omega arith)
  before_count list items Count (inr h) = absurd (omega (arith, h.1))

  pub count_first : (xs : List X) → IsPartOr (IsList P) [] name d xs → 64 < length xs
      → IsFirstPart (list_place 0) (ListReads P name d) Count
  count_first xs h many =
      let facts = list_reads P name d xs h in
      record {
        fails = count_fails P (member_at name d) xs h many;
        before = before_count facts.0 facts.1;
      }

-- ---- places in rows
row_at : (row : ℕ) (part : ListPart) → (list_place row part).0 ≡ row + (list_place 0 part).0
row_at row Whole = omega arith
row_at row (Element n) = omega arith
row_at row Count = omega arith

number_at : (row : ℕ) (part : ListPart) → (list_place row part).1 ≡ (list_place 0 part).1
number_at row Whole = refl
number_at row (Element n) = refl
number_at row Count = refl

three_rows : (part : ListPart) → (list_place 0 part).0 < 3
three_rows Whole = omega arith
three_rows (Element n) = omega arith
three_rows Count = omega arith

same_list : (row : ℕ) (one other : ListPart) → Precedes (list_place row one) (list_place row other)
    → Precedes (list_place 0 one) (list_place 0 other)
same_list row one other (inl h) = inl (omega (arith, h, row_at row one, row_at row other))
same_list row one other (inr h) = inr (
  omega (arith, h.0, row_at row one, row_at row other),
  omega (arith, h.1, number_at row one, number_at row other),
)

later : (row next : ℕ) (one other : ListPart) → row + 3 ≤ next
    → Precedes (list_place next other) (list_place row one) → ⊥
later row next one other far (inl h) =
    absurd (omega (arith, h, row_at row one, row_at next other, three_rows one))
later row next one other far (inr h) =
    absurd (omega (arith, h.0, row_at row one, row_at next other, three_rows one))

earlier : (row next : ℕ) (part : ListPart) → row + 3 ≤ next → (list_place row part).0 < next
earlier row next part far = omega (arith, row_at row part, three_rows part)

not_before : (row next : ℕ) (part : ListPart) → next ≤ row → (list_place row part).0 < next → ⊥
not_before row next part far h = absurd (omega (arith, row_at row part))

rows_below : (list : RootList) → 2 ≤ row_of list
rows_below Logs = omega arith
rows_below Authorities = omega arith
rows_below CertificateLogs = omega arith

-- ---- documents
media_is_object : (d : Data) → IsMediaType d → IsTrue (is_some (as_object d))
media_is_object (object ms) h = refl
media_is_object d (inl h) = absurd h
media_is_object d (inr h) = absurd h

pub all_read : (d : Data) (root : TrustedRoot) → IsRoot d root → (part : RootPart) → PartReads d part
all_read d root h Json = media_is_object d h.media_type
all_read d root h MediaType = h.media_type
all_read d root h (In Logs part) = list_parts IsRootLog (codes "tlogs") d root.logs h.logs part
all_read d root h (In Authorities part) =
    list_parts IsAuthority (codes "certificateAuthorities") d root.authorities h.authorities part
all_read d root h (In CertificateLogs part) =
    list_parts IsRootLog (codes "ctlogs") d root.certificate_logs h.certificate_logs part

-- what stands before a row reads
abbrev pub ReadsBefore : Data → ℕ → Type 0
ReadsBefore d row = (other : RootPart) → (place other).0 < row → PartReads d other

before_in : (d : Data) (list : RootList) (part : ListPart) → ReadsBefore d (row_of list)
    → IsFirstPart (list_place 0) (λ q. PartReads d (In list q)) part
    → (other : RootPart) → Precedes (place other) (place (In list part)) → PartReads d other
before_in d list part head first Json less = head Json (omega (arith, rows_below list))
before_in d list part head first MediaType less = head MediaType (omega (arith, rows_below list))
before_in d Logs part head first (In Logs q) less = first.before q (same_list 2 q part less)
before_in d Logs part head first (In Authorities q) less =
    absurd (later 2 5 part q (omega arith) less)
before_in d Logs part head first (In CertificateLogs q) less =
    absurd (later 2 8 part q (omega arith) less)
before_in d Authorities part head first (In Logs q) less =
    head (In Logs q) (earlier 2 5 q (omega arith))
before_in d Authorities part head first (In Authorities q) less =
    first.before q (same_list 5 q part less)
before_in d Authorities part head first (In CertificateLogs q) less =
    absurd (later 5 8 part q (omega arith) less)
before_in d CertificateLogs part head first (In Logs q) less =
    head (In Logs q) (earlier 2 8 q (omega arith))
before_in d CertificateLogs part head first (In Authorities q) less =
    head (In Authorities q) (earlier 5 8 q (omega arith))
before_in d CertificateLogs part head first (In CertificateLogs q) less =
    first.before q (same_list 8 q part less)

in_first : (d : Data) (list : RootList) (part : ListPart) → ReadsBefore d (row_of list)
    → IsFirstPart (list_place 0) (λ q. PartReads d (In list q)) part → IsRootFault d (BadRoot (In list part))
in_first d list part head first = record {
  fails = first.fails;
  before = before_in d list part head first;
}

before_json : (d : Data) → (other : RootPart) → Precedes (place other) (0, 0) → PartReads d other
before_json d other (inl h) = absurd (omega arith)
before_json d other (inr h) = absurd (omega (arith, h.1))

pub json_first : (d : Data) → ¬ PartReads d Json → IsRootFault d (BadRoot Json)
json_first d none = record { fails = none; before = before_json d }

before_media : (d : Data) → PartReads d Json → (other : RootPart) → Precedes (place other) (1, 0)
    → PartReads d other
before_media d json Json less = json
before_media d json MediaType (inl h) = absurd (omega arith)
before_media d json MediaType (inr h) = absurd (omega (arith, h.1))
before_media d json (In Logs q) (inl h) = absurd (omega (arith, h, row_at 2 q))
before_media d json (In Logs q) (inr h) = absurd (omega (arith, h.0, row_at 2 q))
before_media d json (In Authorities q) (inl h) = absurd (omega (arith, h, row_at 5 q))
before_media d json (In Authorities q) (inr h) = absurd (omega (arith, h.0, row_at 5 q))
before_media d json (In CertificateLogs q) (inl h) = absurd (omega (arith, h, row_at 8 q))
before_media d json (In CertificateLogs q) (inr h) = absurd (omega (arith, h.0, row_at 8 q))

pub media_first : (d : Data) → PartReads d Json → ¬ PartReads d MediaType
    → IsRootFault d (BadRoot MediaType)
media_first d json none = record { fails = none; before = before_media d json }

-- what reads before each list
pub before_logs : (d : Data) → PartReads d Json → PartReads d MediaType → ReadsBefore d 2
before_logs d json media Json h = json
before_logs d json media MediaType h = media
before_logs d json media (In Logs q) h = absurd (not_before 2 2 q (omega arith) h)
before_logs d json media (In Authorities q) h = absurd (not_before 5 2 q (omega arith) h)
before_logs d json media (In CertificateLogs q) h = absurd (not_before 8 2 q (omega arith) h)

pub before_authorities : (d : Data) → PartReads d Json → PartReads d MediaType
    → ((q : ListPart) → PartReads d (In Logs q)) → ReadsBefore d 5
before_authorities d json media logs Json h = json
before_authorities d json media logs MediaType h = media
before_authorities d json media logs (In Logs q) h = logs q
before_authorities d json media logs (In Authorities q) h =
    absurd (not_before 5 5 q (omega arith) h)
before_authorities d json media logs (In CertificateLogs q) h =
    absurd (not_before 8 5 q (omega arith) h)

pub before_certificate_logs : (d : Data) → PartReads d Json → PartReads d MediaType
    → ((q : ListPart) → PartReads d (In Logs q)) → ((q : ListPart) → PartReads d (In Authorities q))
    → ReadsBefore d 8
before_certificate_logs d json media logs authorities Json h = json
before_certificate_logs d json media logs authorities MediaType h = media
before_certificate_logs d json media logs authorities (In Logs q) h = logs q
before_certificate_logs d json media logs authorities (In Authorities q) h = authorities q
before_certificate_logs d json media logs authorities (In CertificateLogs q) h =
    absurd (not_before 8 8 q (omega arith) h)

-- a fault of a list is one of the document
pub logs_fault : (d : Data) → ReadsBefore d 2 → (e : RootFault) → IsFaultIn IsRootLog Logs d e
    → IsRootFault d e
logs_fault d head (BadRoot Json) h = absurd h
logs_fault d head (BadRoot MediaType) h = absurd h
logs_fault d head (BadRoot (In list part)) h =
    subst (λ l. IsRootFault d (BadRoot (In l part))) (sym h.0) (in_first d Logs part head h.1)
logs_fault d head OutOfMemory h = tt

pub authorities_fault : (d : Data) → ReadsBefore d 5 → (e : RootFault)
    → IsFaultIn IsAuthority Authorities d e → IsRootFault d e
authorities_fault d head (BadRoot Json) h = absurd h
authorities_fault d head (BadRoot MediaType) h = absurd h
authorities_fault d head (BadRoot (In list part)) h =
    subst (λ l. IsRootFault d (BadRoot (In l part))) (sym h.0) (in_first d Authorities part head h.1)
authorities_fault d head OutOfMemory h = tt

pub certificate_logs_fault : (d : Data) → ReadsBefore d 8 → (e : RootFault)
    → IsFaultIn IsRootLog CertificateLogs d e → IsRootFault d e
certificate_logs_fault d head (BadRoot Json) h = absurd h
certificate_logs_fault d head (BadRoot MediaType) h = absurd h
certificate_logs_fault d head (BadRoot (In list part)) h =
    subst (λ l. IsRootFault d (BadRoot (In l part))) (sym h.0)
    (in_first d CertificateLogs part head h.1)
certificate_logs_fault d head OutOfMemory h = tt

-- ---- bytes
-- what fails first in the document, fails first in the bytes
fault_of_document : (bytes : List ℕ) (d : Data) (part : RootPart) → IsDocument bytes d
    → IsRootFault d (BadRoot part) → RootPartOf bytes part
fault_of_document bytes d part is h = record {
  fails = λ reads. h.fails (subst (λ e. PartReads e part) (same_document bytes reads.0 d reads.1 is)
      reads.2);
  before = λ other less. (d, is, h.before other less);
}

pub bad_of_document : (bytes : List ℕ) (d : Data) → IsDocument bytes d
    → (read : Result TrustedRoot RootFault) → MatchResult read (IsRoot d) (IsRootFault d)
    → IfErr read (λ e. (part : RootPart) → e ≡ BadRoot part → RootPartOf bytes part)
bad_of_document bytes d is (Ok root) h = tt
bad_of_document bytes d is (Err e) h = λ part same. fault_of_document bytes d part is
    (subst (IsRootFault d) same h)

pub no_document : (bytes : List ℕ) → ((d : Data) → ¬ IsDocument bytes d) → RootPartOf bytes Json
no_document bytes none = record {
  fails = λ reads. none reads.0 reads.1;
  before = λ other less. absurd (nothing other less);
}
  where
    nothing : (other : RootPart) → Precedes (place other) (0, 0) → ⊥
    nothing other (inl h) = absurd (omega arith)
    nothing other (inr h) = absurd (omega (arith, h.1))

-- bytes in which a part fails are no trusted root
pub no_root : (bytes : List ℕ) (part : RootPart) → RootPartOf bytes part → (root : TrustedRoot)
    → ¬ RootOf bytes root
no_root bytes part first root is = first.fails (is.0, is.1, all_read is.0 root is.2 part)
