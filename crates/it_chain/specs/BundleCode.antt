-- The code of `Contents`: a list of marks, from which the contents can be read back.
use Rattle.std.specs.Prelude.{◌≡◌, ℕ, List, [], ◌∷◌, refl}
use base.Stored.{coded_via}
use Rattle.std.specs.Coded.{Coded, code_by, coded×, coded_ℕ, coded_list}
use Rattle.std.proofs.Common.{ap}
use Rattle.it_chain.specs.Contents.{Contents, contents_of, Folders, no_folders, folder}
use Rattle.it_chain.specs.declared.bundle.File.{File}

-- a bundle's files, or a folder's name, or the end of the folders
pub record Mark : Type 0 where
  pub files : List File
  pub name : List ℕ
  pub kind : ℕ

abbrev mutual
  pub marks_of : Contents → List Mark → List Mark
  marks_of (contents_of files below) more =
      record { files = files; name = []; kind = 0 } ∷ folder_marks below more

  pub folder_marks : Folders → List Mark → List Mark
  folder_marks no_folders more = record { files = []; name = []; kind = 0 } ∷ more
  folder_marks (folder name inner rest) more =
      record { files = []; name = name; kind = 1 } ∷ marks_of inner (folder_marks rest more)

head_of : (x y : Mark) (xs ys : List Mark) → x ∷ xs ≡ y ∷ ys → x ≡ y
head_of x y xs ys e = cc

tail_of : (x y : Mark) (xs ys : List Mark) → x ∷ xs ≡ y ∷ ys → xs ≡ ys
tail_of x y xs ys e = cc

mutual
  told : (a b : Contents) (x y : List Mark) → marks_of a x ≡ marks_of b y → (a ≡ b) × (x ≡ y)
  told (contents_of files below) (contents_of others within) x y h =
      let rest = told_folders below within x y (tail_of _ _ _ _ h) in
      let same : files ≡ others = ap (λ (m : Mark). m.files) (head_of _ _ _ _ h) in
      (λ k. contents_of (same k) (rest.0 k), rest.1)

  told_folders : (a b : Folders) (x y : List Mark) → folder_marks a x ≡ folder_marks b y → (a ≡ b)
      × (x ≡ y)
  told_folders no_folders no_folders x y h = (refl, tail_of _ _ _ _ h)
  told_folders no_folders (folder name inner rest) x y h =
      absurd (let kind : 0 ≡ 1 = ap (λ (m : Mark). m.kind) (head_of _ _ _ _ h) in cc)
  told_folders (folder name inner rest) no_folders x y h =
      absurd (let kind : 1 ≡ 0 = ap (λ (m : Mark). m.kind) (head_of _ _ _ _ h) in cc)
  told_folders (folder name inner rest) (folder other within more) x y h =
      let same : name ≡ other = ap (λ (m : Mark). m.name) (head_of _ _ _ _ h) in
      let first = told inner within _ _ (tail_of _ _ _ _ h) in
      let others = told_folders rest more x y first.1 in
      (λ k. folder (same k) (first.0 k) (others.0 k), others.1)

pub told_apart : (a b : Contents) → marks_of a [] ≡ marks_of b [] → a ≡ b
told_apart a b h = (told a b [] [] h).0

abbrev pub coded_text : Coded (List ℕ)
coded_text = coded_list coded_ℕ

abbrev pub coded_file : Coded File
coded_file =
    code_by (List ℕ × List ℕ) (coded× coded_text coded_text) (λ f. (f.name, f.bytes))
    (λ p. record { name = p.0; bytes = p.1 }) (λ _. refl)

abbrev pub coded_mark : Coded Mark
coded_mark =
    code_by (List File × (List ℕ × ℕ)) (coded× (coded_list coded_file) (coded× coded_text coded_ℕ))
    (λ m. (m.files, (m.name, m.kind))) (λ p. record { files = p.0; name = p.1.0; kind = p.1.1 })
    (λ _. refl)

abbrev pub coded_contents : Coded Contents
coded_contents = coded_via (coded_list coded_mark) (λ contents. marks_of contents []) told_apart
