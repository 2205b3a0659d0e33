-- Files in the order of their paths' bytes.
use Rattle.std.proofs.Common.{◌≡◌, ◌∙◌, ◌++◌, ◌∷◌, ◌-◌, ◌<◌, ◌≤◌, ◌≢◌, ◌⊎◌, ◌↔◌, [], ℕ, List, All}
use Rattle.std.proofs.Common.{AllPairs, Bor, Contains, Less, Some, ap, append-nil, append_assoc, arith, codes}
use Rattle.std.proofs.Common.{get_or, inl, inr, length, option_map, refl, subst, sym}
use Rattle.std.specs.List.{slice_get, slice_range}
use Rattle.std.specs.Str.{byte}
use Rattle.std.proofs.lemmas.Bool.{cases_lt}
use Rattle.std.proofs.lemmas.Cmp.{nat_list_cmp_total}
use Rattle.std.proofs.lemmas.List.{length-map}
use Rattle.std.proofs.lemmas.List.Quantifiers.{all_pairs_push}
use Rattle.std.proofs.lemmas.Option.{get_or_from_slice_get, slice_get-get_or, slice_get-map}
use Rattle.it_rules.specs.Ranges.{AreInOrder, IsFrontRange}
use Rattle.it_rules.proofs.Listed.{Contains-map, Contains-map_cases, mapped_place, same_place}
use Rattle.it_rules.proofs.Listed.{slice_get_within}
use Rattle.it_rules.proofs.PathOrder.{not_below_itself, path_cmp}
use Rattle.it_disk.specs.declared.folders.Kind.{Kind}
use Rattle.it_disk.specs.declared.folders.Kind.TheVariants.{File as a_file, Folder}
use Rattle.it_memory.specs.Files.{HasBelow, HasFile, HasKind, HasName, files_of}
use Rattle.it_memory.specs.inside.Names.{HasNameAfter}
use Rattle.it_memory.proofs.NamesAfter.{from_range, in_range}
use Rattle.it_sorted_paths.specs.Order.{IsAt, IsNext}
use Rattle.it_memory.specs.inside.Order.{AreOrdered}
use Rattle.it_memory.specs.declared.file.File.{File}

-- a path that comes after the last of some in order
pub in_order_more : (paths : List (Bor (List ℕ))) (path : Bor (List ℕ)) → AreInOrder paths
    → IsNext paths path.now → AreInOrder (paths ++ path ∷ [])
in_order_more paths path ordered next =
    all_pairs_push (λ (a b : Bor (List ℕ)). path_cmp a.now b.now ≡ Less) paths path ordered
    (λ k d l.
    let end = length paths - 1 in
    let last = get_or paths end d in
    let below = next last (slice_get-get_or paths end d (omega arith)) in
    elim (cases_lt k end) [
      | inl e ↦ nat_list_cmp_total.trans (get_or paths k d).now last.now path.now
          (ordered k end d e (omega arith)) below
      | inr g ↦ let same : k ≡ end = omega arith in
          subst (λ i. path_cmp (get_or paths i d).now path.now ≡ Less) (sym same) below
    ])

abbrev pub now_of : Bor (List ℕ) → List ℕ
now_of path = path.now

abbrev pub path_of : File → List ℕ
path_of file = file.path.now

abbrev pub shown : File → List ℕ × List ℕ
shown file = (file.path.now, file.bytes.now)

abbrev no_path : Bor (List ℕ)
no_path = record { ref_ptr = (0, 0); now = [] }

module _ (files : List File) (paths : List (Bor (List ℕ))) (ordered : AreOrdered files paths) where
  -- the file whose path stands at a place
  file_at : (place : ℕ) (path : Bor (List ℕ)) → slice_get paths place ≡ Some path
      → (file : File) × (slice_get files place ≡ Some file) × (file.path.now ≡ path.now)
  file_at place path here =
      let there : option_map path_of (slice_get files place) ≡ Some path.now =
      sym (slice_get-map path_of files place) ∙ ap (λ ps. slice_get ps place) (sym ordered.same)
      ∙ slice_get-map now_of paths place ∙ ap (option_map now_of) here in
      mapped_place path_of (slice_get files place) path.now there

  -- some file has the path
  has_at : (place : ℕ) (path : Bor (List ℕ)) → slice_get paths place ≡ Some path
      → (bytes : List ℕ) × HasFile (files_of files) path.now bytes
  has_at place path here =
      let found = file_at place path here in (
        found.0.bytes.now,
        subst (λ p. HasFile (files_of files) p found.0.bytes.now) found.2
            (Contains-map shown files place found.0 found.1),
      )

  pub file_there : (path : List ℕ) (place : ℕ) → IsAt paths path place
      → (bytes : List ℕ) × HasFile (files_of files) path bytes
  file_there path place at =
      let found = has_at place at.found at.at_place in
      (found.0, subst (λ p. HasFile (files_of files) p found.0) at.same found.1)

  place_within : (path : List ℕ) (place : ℕ) → IsAt paths path place → place < length files
  place_within path place at =
      let found = file_at place at.found at.at_place in
      slice_get_within files place found.0 found.1

  -- the file at the place of the path has it
  pub file_found : (path : List ℕ) (place : ℕ) (file : File) → IsAt paths path place
      → file ≡ get_or files place file → HasFile (files_of files) path file.bytes.now
  file_found path place file at is =
      let found = file_at place at.found at.at_place in
      let here : slice_get files place ≡ Some file =
      slice_get-get_or files place file (place_within path place at) ∙ ap Some (sym is) in
      let one : found.0 ≡ file = same_place files found.1 here refl in
      subst (λ p. HasFile (files_of files) p file.bytes.now)
      (ap path_of (sym one) ∙ found.2 ∙ at.same) (Contains-map shown files place file here)

  -- a path that begins with the folder's and a slash is there
  pub below_found : (front folder : List ℕ) (start end : ℕ) → front ≡ folder ++ codes "/"
      → IsFrontRange paths front start end → start < end → HasBelow (files_of files) folder
  below_found front folder start end is range less =
      let path = get_or paths start no_path in
      let within : start < length paths = omega (arith, range.within, less) in
      let here = slice_get-get_or paths start no_path within in
      let first : start ≤ start = omega arith in
      let begins = (range.exact start path here).1 (first, less) in
      let found = has_at start path here in
      let cut : path.now ≡ (folder ++ codes "/") ++ begins.0 = begins.1
      ∙ ap (λ f. f ++ begins.0) is in
      record {
        inside = begins.0;
        bytes = found.0;
        has = subst (λ p. HasFile (files_of files) p found.0) cut found.1;
      }

  -- the path of the file at a place
  path_here : (place : ℕ) (file : File) → slice_get files place ≡ Some file
      → (path : Bor (List ℕ)) × (slice_get paths place ≡ Some path) × (path.now ≡ file.path.now)
  path_here place file here =
      let there : option_map now_of (slice_get paths place) ≡ Some file.path.now =
      sym (slice_get-map now_of paths place) ∙ ap (λ ps. slice_get ps place) ordered.same
      ∙ slice_get-map path_of files place ∙ ap (option_map path_of) here in
      mapped_place now_of (slice_get paths place) file.path.now there

  -- where a file lies below the folder, the range is not empty
  pub below_there : (front folder : List ℕ) (start end : ℕ) → front ≡ folder ++ codes "/"
      → IsFrontRange paths front start end → HasBelow (files_of files) folder → start < end
  below_there front folder start end is range below =
      let found = Contains-map_cases shown files (folder ++ codes "/" ++ below.inside, below.bytes)
      below.has in
      let here = path_here found.0 found.1 found.2 in
      let begins : here.0.now ≡ front ++ below.inside = here.2 ∙ ap (λ f. f.0) found.3
      ∙ ap (λ f. f ++ below.inside) (sym is) in
      let within = (range.exact found.0 here.0 here.1).0 (below.inside, begins) in
      omega (arith, within.0, within.1)

  same_length : length (files_of files) ≡ length paths
  same_length =
      length-map files shown ∙ sym (length-map files path_of) ∙ sym (ap length ordered.same)
      ∙ length-map paths now_of

  -- the path of the file that is shown at a place
  path_at : (place : ℕ) (d : List ℕ × List ℕ) → place < length paths
      → (get_or (files_of files) place d).0 ≡ (get_or paths place no_path).now
  path_at place d within =
      let path = get_or paths place no_path in
      let found = file_at place path (slice_get-get_or paths place no_path within) in
      let at_place : slice_get (files_of files) place ≡ Some (shown found.0) =
      slice_get-map shown files place ∙ ap (option_map shown) found.1 in
      ap (λ f. f.0) (get_or_from_slice_get (files_of files) place (shown found.0) d at_place)
      ∙ found.2

  -- no two files have one path
  pub paths_differ : AllPairs (λ (a b : List ℕ × List ℕ). a.0 ≢ b.0) (files_of files)
  paths_differ i j d before within = λ same.
      let within_paths : j < length paths = subst (λ n. j < n) same_length within in
      let first : i < length paths = omega (arith, before, within_paths) in
      not_below_itself (get_or paths i no_path).now (get_or paths j no_path).now
      (sym (path_at i d first) ∙ same ∙ path_at j d within_paths)
      (ordered.in_order i j no_path before within_paths)

  -- what holds of each path holds of the path of each file
  pub of_each_file : (P : List ℕ → Type 0) → All (λ (path : Bor (List ℕ)). P path.now) paths
      → All (λ (file : List ℕ × List ℕ). P file.0) (files_of files)
  of_each_file P all place d within =
      let within_paths : place < length paths = subst (λ n. place < n) same_length within in
      subst P (sym (path_at place d within_paths)) (all place no_path within_paths)

  -- a name that follows the front in one of the paths is one of the folder
  pub name_there : (front folder name : List ℕ) → front ≡ folder ++ codes "/"
      → HasNameAfter front paths name → HasName (files_of files) folder name
  name_there front folder name is found =
      let path = found.0 in
      let after = found.2 in
      let inside : front ++ name ≡ folder ++ codes "/" ++ name = ap (λ f. f ++ name) is in
      let has = has_at found.1.0 path (slice_get-get_or paths found.1.0 path found.1.1
      ∙ ap Some found.1.2) in
      elim after.ends [
        | inl none ↦
            let cut : path.now ≡ folder ++ codes "/" ++ name =
            after.cut ∙ ap (λ r. front ++ name ++ r) none ∙ append-nil (front ++ name) ∙ inside in
            record {
              no_slash = after.no_slash;
              kind = a_file;
              has = (has.0, subst (λ p. HasFile (files_of files) p has.0) cut has.1);
            }
        | inr more ↦
            let cut : path.now ≡ (folder ++ codes "/" ++ name) ++ codes "/" ++ more.0 =
            after.cut ∙ ap (λ r. front ++ name ++ r) more.1 ∙ ap (λ f. f ++ (codes "/" ++ more.0)) inside
            ∙ sym (append_assoc (folder ++ codes "/" ++ name) (codes "/") more.0) in
            record {
              no_slash = after.no_slash;
              kind = Folder;
              has = record {
                inside = more.0;
                bytes = has.0;
                has = subst (λ p. HasFile (files_of files) p has.0) cut has.1;
              };
            }
      ]

  -- the place of the path of a file
  path_of_file : (path bytes : List ℕ) → HasFile (files_of files) path bytes
      → (place : ℕ) × (found : Bor (List ℕ)) × (slice_get paths place ≡ Some found)
      × (found.now ≡ path)
  path_of_file path bytes has =
      let found = Contains-map_cases shown files (path, bytes) has in
      let here = path_here found.0 found.1 found.2 in
      (found.0, here.0, here.1, here.2 ∙ ap (λ f. f.0) found.3)

  -- where a path is the front, a name and more, the name follows the front in the range
  follows : (front name rest path bytes : List ℕ) (start end : ℕ)
      → IsFrontRange paths front start end → ¬ Contains name (byte "/")
      → ((rest ≡ []) ⊎ ((inside : List ℕ) × (rest ≡ byte "/" ∷ inside)))
      → path ≡ front ++ name ++ rest → HasFile (files_of files) path bytes
      → HasNameAfter front (slice_range paths start end) name
  follows front name rest path bytes start end range lacks ends cut has =
      let found = path_of_file path bytes has in
      let whole : found.1.now ≡ front ++ name ++ rest = found.3 ∙ cut in
      let within = (range.exact found.0 found.1 found.2).0
      (name ++ rest, whole ∙ append_assoc front name rest) in (
        found.1,
        in_range paths start end range.start_first range.within found.0 found.1 within.0 within.1
            (get_or_from_slice_get paths found.0 found.1 found.1 found.2),
        record { rest = rest; cut = whole; ends = ends; no_slash = lacks },
      )

  -- each name of the folder follows the front in the range
  module _ (front folder name : List ℕ) (start end : ℕ) (is : front ≡ folder ++ codes "/")
      (range : IsFrontRange paths front start end) where
    inside : folder ++ codes "/" ++ name ≡ front ++ name
    inside = ap (λ f. f ++ name) (sym is)

    of_kind : (kind : Kind) → ¬ Contains name (byte "/")
        → HasKind (files_of files) (folder ++ codes "/" ++ name) kind
        → HasNameAfter front (slice_range paths start end) name
    of_kind a_file lacks held =
        follows front name [] (folder ++ codes "/" ++ name) held.0 start end range lacks (inl refl)
        (inside ∙ sym (append-nil (front ++ name))) held.1
    of_kind Folder lacks below =
        follows front name (byte "/" ∷ below.inside)
        ((folder ++ codes "/" ++ name) ++ codes "/" ++ below.inside) below.bytes start end range lacks
        (inr (below.inside, refl))
        (append_assoc (folder ++ codes "/" ++ name) (codes "/") below.inside
        ∙ ap (λ f. f ++ (codes "/" ++ below.inside)) inside) below.has

    pub name_found : HasName (files_of files) folder name
        → HasNameAfter front (slice_range paths start end) name
    name_found has = of_kind has.kind has.no_slash has.has

  -- the names that follow the front in the range are those of the folder
  pub names_of_folder : (front folder : List ℕ) (start end : ℕ) → front ≡ folder ++ codes "/"
      → IsFrontRange paths front start end → (found : List (List ℕ)) → ((name : List ℕ)
      → Contains found name ↔ HasNameAfter front (slice_range paths start end) name)
      → (name : List ℕ) → Contains found name ↔ HasName (files_of files) folder name
  names_of_folder front folder start end is range found told name = (
    λ c. let after = (told name).0 c in
        name_there front folder name is (
          after.0,
          from_range paths start end range.start_first after.0 after.1,
          after.2,
        ),
    λ has. (told name).1 (name_found front folder name start end is range has),
  )
