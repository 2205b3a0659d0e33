use Rattle.std.proofs.Common.{◌≡◌, ◌∙◌, ◌↔◌, ℕ, List, Contains, map, string_bytes, subst, sym}
use Rattle.std.specs.List.{slice_range}
use Rattle.it_rules.specs.Ranges.{IsFrontRange}
use Rattle.it_memory.specs.Files.{HasName}
use Rattle.it_memory.specs.inside.Names.{HasNameAfter}
use Rattle.it_memory.proofs.Ordered.{names_of_folder}
use Rattle.it_memory.proofs.memory.Memory.names_at.Goals as goal

pub returns : goal.returns
returns c =
    let start = c.front_range-start.result.0 in
    let end = c.front_range-start.result.1 in
    let front = c.as_str.result.now in
    let files = c.self.inside.files.items in
    let paths = c.self.inside.paths.items in
    let folder = c.args.folder.now in
    let names = map string_bytes c.in_ok-names_in.field-0.items in
    let range = subst (λ paths. IsFrontRange paths front start end) c.as_slice.ensures.value
    c.front_range-start.ensures in
    let is = c.as_str.ensures.value ∙ c.in_ok-front.ensures in
    let same : c.as_str-2.result.now ≡ front = c.as_str-2.ensures.value ∙ sym c.as_str.ensures.value in
    let told : (name : List ℕ) → Contains names name
    ↔ HasNameAfter c.as_str-2.result.now (slice_range c.deref.result.now start end) name =
    c.in_ok-names_in.ensures.each in
    let of_front : (name : List ℕ) → Contains names name
    ↔ HasNameAfter front (slice_range c.deref.result.now start end) name =
    subst (λ (f : List ℕ). (name : List ℕ) → Contains names name
    ↔ HasNameAfter f (slice_range c.deref.result.now start end) name) same told in
    let of_paths : (name : List ℕ) → Contains names name
    ↔ HasNameAfter front (slice_range paths start end) name =
    rw c.deref.ensures.value at of_front in
    record {
      each = λ name. subst (λ fs. Contains names name ↔ HasName fs folder name) c.self.view_is
          (names_of_folder files paths c.self.invariant front folder start end is range names
          of_paths name);
      rise = c.in_ok-names_in.ensures.rise;
    }
