use Rattle.std.proofs.Common.{◌∙◌, ap, map, string_bytes}
use Rattle.it_library.specs.Handed.{AreHanded}
use Rattle.it_library.proofs.Answered.{answered, begun}
use Rattle.it_memory.specs.Files.{files_of}
use Rattle.it_library.proofs.run.run.Goals as goal

pub returns : goal.returns
returns c =
    let handed = c.args.handed.now in
    let words = handed.words.now in
    let paths = handed.paths.now in
    let sizes = handed.sizes.now in
    let contents = handed.contents.now in
    let told = c.in_ok-words.ensures in
    let named = map string_bytes c.as_slice.result.now in
    let files = c.in_ok-memory.memory in
    let old = c.args.output.now.inner.items in
    let new = c.run_to.new.out.inner.items in
    let over : AreHanded words paths sizes contents told.0 files = record {
      are_words = told.1;
      files = files_of c.in_ok-files.files.items;
      are_files = c.in_ok-files.ensures;
      same_files = c.in_ok-memory.ensures.same;
      apart = c.in_ok-memory.ensures.apart;
    } in
    let are = ap (map string_bytes) c.as_slice.ensures.value ∙ told.2 in
    record {
      ok = answered words paths sizes contents c.run_to.result told.0 named files old new over are
          c.run_to.ensures.ok;
      stopped = begun words paths sizes contents _ c.run_to.result c.run_to.new.out.error told.0
          named files old new over are c.run_to.ensures.stopped;
    }
