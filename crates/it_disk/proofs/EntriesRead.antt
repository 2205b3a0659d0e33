-- What is read under one name more of a folder.
use Rattle.std.proofs.Common.{◌≡◌, ◌∙◌, ◌-◌, ◌++◌, ◌∷◌, ◌↔◌, [], ℕ, List, Bool, Contains, IsTrue}
use Rattle.std.proofs.Common.{MatchBool, None, Option, Some, append-nil, ap, arith, codes, false, length}
use Rattle.std.proofs.Common.{lit<, map, refl, subst, sym, take, true}
use Rattle.std.proofs.lemmas.Grind.{get_or_default_zero}
use Rattle.std.proofs.lemmas.List.{map-append}
use Rattle.std.proofs.lemmas.Str.Pattern.{contains_char}
use Rattle.std.specs.Str.Pattern.{FindsChar, FindsTextSuffix, HasMatch, HasSuffixMatch}
use Rattle.std.specs.Path.{path_join}
use Rattle.it_disk.specs.Walks.{AreRead, IsRead, IsReadable, Seen, and_name}
use Rattle.it_disk.specs.declared.entries.Readable.{Readable}
use Rattle.it_disk.specs.declared.folders.Kind.{Kind}
use Rattle.it_disk.specs.declared.folders.Kind.TheVariants.{File, Folder}
use Rattle.it_disk.specs.inside.Entries.{IsTold}

module _ (seen : Seen) (folder : List ℕ) (depth : ℕ) where
  module _ {X Y : Type 0} (text : X → List ℕ) (shows : Y → List ℕ × Kind) (names : List X) (name : X)
      (entries : List Y) (before : AreRead seen folder depth (map text names) (map shows entries)) where
    abbrev more : List X
    more = names ++ name ∷ []

    pub passed_over : IsRead seen folder depth (text name) None
        → AreRead seen folder depth (map text more) (map shows entries)
    passed_over read =
        subst (λ ns. AreRead seen folder depth ns (map shows entries))
        (sym (map-append text names (name ∷ [])))
        (subst (AreRead seen folder depth (map text names ++ text name ∷ []))
        (append-nil (map shows entries)) (and_name before (text name) None read))

    pub taken : (entry : Y) (kind : Kind) → shows entry ≡ (text name, kind)
        → IsRead seen folder depth (text name) (Some kind)
        → AreRead seen folder depth (map text more) (map shows (entries ++ entry ∷ []))
    taken entry kind is read =
        subst (λ ns. AreRead seen folder depth ns (map shows (entries ++ entry ∷ [])))
        (sym (map-append text names (name ∷ [])))
        (subst (AreRead seen folder depth (map text names ++ text name ∷ []))
        (ap (λ e. map shows entries ++ e ∷ []) (sym is) ∙ sym (map-append shows entries (entry ∷ [])))
        (and_name before (text name) (Some kind) read))

  -- nothing is read under a name under which nothing can be
  pub nothing_readable : (name : List ℕ) (readable : Readable) → IsTold depth name readable
      → readable.file ≡ false → readable.folder ≡ false → IsRead seen folder depth name None
  nothing_readable name readable told file dir File can = absurd (cc (told.file.1 can, file))
  nothing_readable name readable told file dir Folder can = absurd (cc (told.folder.1 can, dir))

  -- nor where what is there is something else
  pub other_there : (name : List ℕ) (found : Option Kind) → seen.kind (path_join folder name) found
      → ((kind : Kind) → found ≡ Some kind → ¬ IsReadable depth name kind)
      → IsRead seen folder depth name None
  other_there name found is other kind can = (found, is, λ same. other kind same can)

  pub not_readable : (name : List ℕ) (there : Kind) (r : Bool)
      → (IsTrue r ↔ IsReadable depth name there) → r ≡ false
      → seen.kind (path_join folder name) (Some there) → IsRead seen folder depth name None
  not_readable name there r told no_sign is = other_there name (Some there) is
      (λ kind same can. let one : there ≡ kind = cc same in
      let yes : r ≡ true = told.1 (subst (IsReadable depth name) (sym one) can) in
      cc (no_sign, yes))

-- how a name ends, and whether it has a full stop, as the calls that ask tell it
pub ends_so : (suffix name : List ℕ) (r : Bool)
    → MatchBool r (HasSuffixMatch (FindsTextSuffix suffix) name) (FindsTextSuffix suffix name None)
    → IsTrue r ↔ ((front : List ℕ) × (name ≡ front ++ suffix))
ends_so suffix name true told = (λ yes. (take (length name - told.0) name, told.1.1), λ found. refl)
ends_so suffix name false told =
    (λ yes. let e : false ≡ true = yes in cc, λ found. absurd (told found.0 found.1))

pub has_stop : (name : List ℕ) (r : Bool) → MatchBool r (HasMatch (FindsChar 46) name)
    (FindsChar 46 name None) → IsTrue r ↔ Contains name 46
has_stop name r told =
    let both = contains_char 46 name r told (lit< tt) in (
      λ yes. let k = both.0 yes in (k.0, k.1, get_or_default_zero name k.0 46 k.1 ∙ k.2),
      λ found. both.1 found.0 found.1 (sym (get_or_default_zero name found.0 46 found.1) ∙ found.2),
    )

-- where no folder is read, what can be read under a name is a file
pub only_file : (name : List ℕ) (kind : Kind) → IsReadable 0 name kind
    → (front : List ℕ) × (name ≡ front ++ codes ".link")
only_file name File can = can
only_file name Folder can = let least = can.0 in absurd (omega (arith, least))
