-- Public keys that are read from files, one after another.
use Rattle.std.proofs.Common.{◌≡◌, ◌∙◌, ◌<◌, ◌+◌, ◌++◌, ℕ, List, [], ◌∷◌, length, map, take, drop}
use Rattle.std.proofs.Common.{get_or, arith, sym, ap, subst, Option}
use Rattle.std.specs.Borrow.{Bor}
use Rattle.std.specs.List.{AllZip}
use Rattle.std.proofs.lemmas.List.{drop_more, length-map, length-take-le, map-append, take_more}
use Rattle.std.proofs.lemmas.List.{take-append-drop}
use Rattle.it_base.specs.Table.{IsTable, Named}
use Rattle.it_docs.proofs.Same.{document_same, keys_same}
use Rattle.it_dsse.specs.KeyObject.{IsKeyObject}
use Rattle.it_dsse.specs.declared.key_object.KeyObject.{KeyObject}
use Rattle.it_key_commands.specs.KeyFile.{IsFileFault, IsKeyFile}
use Rattle.it_key_commands.specs.KeyOutput.{IsFirstBadFile, IsKeyOutput, keys_of}
use Rattle.it_key_commands.specs.KeysFile.{KeysOf, keys_form}
use Rattle.it_key_commands.specs.declared.fault.FileFault.{FileFault}

-- one more at the end of both lists
pub AllZip-push : {A B : Type 0} (R : A → B → Type 0) (xs : List A) (ys : List B) (x : A) (y : B)
    → AllZip R xs ys → R x y → AllZip R (xs ++ x ∷ []) (ys ++ y ∷ [])
AllZip-push R [] [] x y all here = (here, all)
AllZip-push R [] (z ∷ ys) x y all here = absurd all
AllZip-push R (w ∷ xs) [] x y all here = absurd all
AllZip-push R (w ∷ xs) (z ∷ ys) x y all here = (all.0, AllZip-push R xs ys x y all.1 here)

abbrev pub now_of : Bor (List ℕ) → List ℕ
now_of file = file.now

-- the next file, where there is one
abbrev pub file_at : List (Bor (List ℕ)) → ℕ → Bor (List ℕ) → List ℕ
file_at files place d = (get_or files place d).now

-- one more file is a key
pub key_more : (files : List (Bor (List ℕ))) (place : ℕ) (d : Bor (List ℕ))
    (objects : List KeyObject) (object : KeyObject) → place < length files
    → AllZip IsKeyFile (map now_of (take place files)) objects
    → IsKeyFile (file_at files place d) object
    → AllZip IsKeyFile (map now_of (take (place + 1) files)) (objects ++ object ∷ [])
key_more files place d objects object below so_far is =
    let more : map now_of (take (place + 1) files)
    ≡ map now_of (take place files) ++ file_at files place d ∷ [] =
    ap (map now_of) (take_more files place d below)
    ∙ map-append now_of (take place files) (get_or files place d ∷ []) in
    subst (λ all. AllZip IsKeyFile all (objects ++ object ∷ [])) (sym more)
    (AllZip-push IsKeyFile (map now_of (take place files)) objects (file_at files place d) object
    so_far is)

parted : (files : List (Bor (List ℕ))) (place : ℕ) (d : Bor (List ℕ)) → place < length files
    → map now_of files
    ≡ map now_of (take place files) ++ file_at files place d ∷ map now_of (drop (place + 1) files)
parted files place d below =
    ap (map now_of) (sym (take-append-drop place files)
    ∙ ap (λ rest. take place files ++ rest) (drop_more files place d below))
    ∙ map-append now_of (take place files) (get_or files place d ∷ drop (place + 1) files)

-- the next file is the first that is none
pub first_bad : (files : List (Bor (List ℕ))) (place : ℕ) (d : Bor (List ℕ))
    (objects : List KeyObject) (fault : FileFault) → place < length files
    → AllZip IsKeyFile (map now_of (take place files)) objects
    → IsFileFault (file_at files place d) fault → IsFirstBadFile (map now_of files) place fault
first_bad files place d objects fault below so_far bad = record {
  before = map now_of (take place files);
  file = file_at files place d;
  after = map now_of (drop (place + 1) files);
  files_are = parted files place d below;
  place_is = sym (length-map (take place files) now_of ∙ length-take-le place files (omega arith));
  objects = objects;
  are_keys = so_far;
  bad = bad;
}

-- a text of the keys that files are is the command's output
pub is_key_output : (files : List (List ℕ)) (name : Option (List ℕ)) (objects : List KeyObject)
    (keys : Named KeyObject) (text : List ℕ) → AllZip IsKeyFile files objects
    → keys ≡ keys_of name objects → text ≡ keys_form keys → KeysOf text keys
    → IsKeyOutput files name text
is_key_output files name objects keys text are is form back = record {
  objects = objects;
  are_keys = are;
  text_is = form ∙ ap keys_form is;
  reads_back = subst (KeysOf text) is back;
  only = λ other h. document_same (IsTable IsKeyObject) keys_same text other keys h back ∙ is;
}
