-- What the parts of a document are, as answers.
use Rattle.std.proofs.Common.{◌≡◌, ℕ, List, [], ◌∷◌, Bool, true, false, cond, Option, Some, None}
use Rattle.std.proofs.Common.{MatchOption, option_and_then, option_map, Result, Err, MatchResult}
use Rattle.std.proofs.Common.{Decides, refl, true≢false, sym, ◌∙◌}
use Rattle.std.specs.Str.{is_utf8}
use Rattle.std.proofs.lemmas.Str.{IsUtf8-from_is_utf8, is_utf8-from_IsUtf8}
use Rattle.serde_json.specs.Data.{Data, Items, no_items, item}
use Rattle.serde_json.specs.Find.{as_array, as_str}
use Rattle.serde_json.specs.Read.{read}
use Rattle.it_base.specs.Base64Text.{IsBase64, base64_decoded}
use Rattle.it_base.specs.Document.{OfDocument, member_at}
use Rattle.it_base.specs.Finds.{Finds}
use Rattle.it_base.specs.Parts.{IsPart, IsPartOr}
use Rattle.it_base.specs.Sequence.{AreEach, IsList}
use Rattle.it_base.specs.Text.{IsText}
use Rattle.it_base.proofs.Documents.{found_of_document}

-- a function that finds what each part is
abbrev pub Reads : {X : Type 0} → (Data → X → Type 0) → (Data → Option X) → Type 0
Reads P f = (d : Data) → Finds (P d) (f d)

-- decides `IsPart`
abbrev pub part_of : {X : Type 0} → (Data → Option X) → List ℕ → Data → Option X
part_of f name d = option_and_then f (member_at name d)

abbrev found_or : {X : Type 0} → (Data → Option X) → X → Option Data → Option X
found_or f missing None = Some missing
found_or f missing (Some v) = f v

-- decides `IsPartOr`
abbrev pub part_or_of : {X : Type 0} → (Data → Option X) → X → List ℕ → Data → Option X
part_or_of f missing name d = found_or f missing (member_at name d)

-- two values, where both are found
abbrev pub both_of : {X Y : Type 0} → Option X → Option Y → Option (X × Y)
both_of None ys = None
both_of (Some x) ys = option_map (λ y. (x, y)) ys

-- decides `AreEach`
abbrev each_of : {X : Type 0} → (Data → Option X) → Items → Option (List X)
each_of f no_items = Some []
each_of f (item d ds) = option_map (λ p. p.0 ∷ p.1) (both_of (f d) (each_of f ds))

-- decides `IsList`
abbrev pub list_of : {X : Type 0} → (Data → Option X) → Data → Option (List X)
list_of f d = option_and_then (each_of f) (as_array d)

-- decides `IsBase64`
abbrev pub base64_of : Data → Option (List ℕ)
base64_of d = option_and_then base64_decoded (as_str d)

-- decides `OfDocument`
abbrev pub document_of : {X : Type 0} → (Data → Option X) → List ℕ → Option X
document_of f bytes = cond (is_utf8 bytes) (option_and_then f (read bytes)) None

-- what follows where a value is found, and a fault where it is not
abbrev pub or_fault : {X R E : Type 0} → Option X → E → (X → Result R E) → Result R E
or_fault None fault next = Err fault
or_fault (Some x) fault next = next x

-- what an option has
pub finds_same : {X : Type 0} (found : Option X) → Finds (λ x. found ≡ Some x) found
finds_same None = λ x e. cc
finds_same (Some x) = refl

-- what is found, in another form
pub finds_like : {X Y : Type 0} (P : X → Type 0) (Q : Y → Type 0) (f : X → Y) (back : Y → X)
    → ((x : X) → P x → Q (f x)) → ((y : Y) → Q y → P (back y))
    → (found : Option X) → Finds P found → Finds Q (option_map f found)
finds_like P Q f back to from None h = λ y q. h (back y) (from y q)
finds_like P Q f back to from (Some x) h = to x h

pub finds_both : {X Y : Type 0} (P : X → Type 0) (Q : Y → Type 0) (first : Option X)
    (second : Option Y) → Finds P first → Finds Q second
    → Finds (λ p. P p.0 × Q p.1) (both_of first second)
finds_both P Q None second h k = λ p q. h p.0 q.0
finds_both P Q (Some x) None h k = λ p q. k p.1 q.1
finds_both P Q (Some x) (Some y) h k = (h, k)

-- what is found, where a test says that it may be
pub finds_where : {X : Type 0} {A : Type 0} (P : X → Type 0) (b : Bool) (found : Option X)
    → Decides b A → Finds P found → Finds (λ x. A × P x) (cond b found None)
finds_where P true None d h = λ x k. h x k.1
finds_where P true (Some x) d h = (d.0 refl, h)
finds_where P false found d h = λ x k. true≢false (sym (d.1 k.0))

pub or_fault-is : {X R E : Type 0} (P : X → Type 0) (Good : R → Type 0) (Bad : E → Type 0)
    (found : Option X) (fault : E) (next : X → Result R E) → Finds P found
    → (((x : X) → ¬ P x) → Bad fault)
    → ((x : X) → P x → MatchResult (next x) Good Bad)
    → MatchResult (or_fault found fault next) Good Bad
or_fault-is P Good Bad None fault next h bad good = bad h
or_fault-is P Good Bad (Some x) fault next h bad good = good x h

pub text_reads : Reads IsText as_str
text_reads d = finds_same (as_str d)

pub base64_reads : Reads IsBase64 base64_of
base64_reads d = finds_same (base64_of d)

module _ {X : Type 0} (P : Data → X → Type 0) (f : Data → Option X) (reads : Reads P f) where
  at_member : (member : Option Data) → Finds (λ x. MatchOption member ⊥ (λ v. P v x))
      (option_and_then f member)
  at_member None = λ x h. h
  at_member (Some v) = reads v

  pub part_reads : (name : List ℕ) → Reads (IsPart P name) (part_of f name)
  part_reads name d = at_member (member_at name d)

  at_member_or : (missing : X) (member : Option Data)
      → Finds (λ x. MatchOption member (x ≡ missing) (λ v. P v x)) (found_or f missing member)
  at_member_or missing None = refl
  at_member_or missing (Some v) = reads v

  pub part_or_reads : (missing : X) (name : List ℕ) → Reads (IsPartOr P missing name)
      (part_or_of f missing name)
  part_or_reads missing name d = at_member_or missing (member_at name d)

  no_first : (d : Data) (ds : Items) → ((x : X) → ¬ P d x) → (xs : List X)
      → ¬ AreEach P (item d ds) xs
  no_first d ds h [] a = a
  no_first d ds h (x ∷ xs) a = h x a.0

  no_rest : (d : Data) (ds : Items) → ((xs : List X) → ¬ AreEach P ds xs) → (xs : List X)
      → ¬ AreEach P (item d ds) xs
  no_rest d ds h [] a = a
  no_rest d ds h (x ∷ xs) a = h xs a.1

  more_each : (d : Data) (ds : Items) (first : Option X) (rest : Option (List X))
      → Finds (P d) first → Finds (AreEach P ds) rest → Finds (AreEach P (item d ds))
      (option_map (λ p. p.0 ∷ p.1) (both_of first rest))
  more_each d ds None rest h k = no_first d ds h
  more_each d ds (Some x) None h k = no_rest d ds k
  more_each d ds (Some x) (Some xs) h k = (h, k)

  each_reads : (ds : Items) → Finds (AreEach P ds) (each_of f ds)
  each_reads no_items = tt
  each_reads (item d ds) = more_each d ds (f d) (each_of f ds) (reads d) (each_reads ds)

  at_items : (items : Option Items) → Finds (λ xs. MatchOption items ⊥ (λ ds. AreEach P ds xs))
      (option_and_then (each_of f) items)
  at_items None = λ xs h. h
  at_items (Some ds) = each_reads ds

  pub list_reads : Reads (IsList P) (list_of f)
  list_reads d = at_items (as_array d)

  -- the bytes are what is found, or are nothing
  pub document_reads : (bytes : List ℕ) → Finds (OfDocument P bytes) (document_of f bytes)
  document_reads bytes = go (is_utf8 bytes) refl (read bytes) refl
    where
      go : (b : Bool) → is_utf8 bytes ≡ b → (found : Option Data) → read bytes ≡ found
          → Finds (OfDocument P bytes) (cond b (option_and_then f found) None)
      go false e found r = λ x h. true≢false (sym (is_utf8-from_IsUtf8 bytes h.1.utf8) ∙ e)
      go true e None r = λ x h. let other = h.1.reads in cc
      go true e (Some d) r = found_of_document P bytes d (f d) (record {
        utf8 = IsUtf8-from_is_utf8 bytes e;
        reads = r;
      }) (reads d)
