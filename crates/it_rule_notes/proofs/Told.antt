-- What is told of files that count.
use Rattle.std.proofs.Common.{◌≡◌, ◌≢◌, ℕ, List, All, Contains, sym, subst}
use Rattle.std.proofs.lemmas.List.Elements.{All-contains}
use Rattle.it_docs.specs.declared.layout.Layout.{Layout}
use Rattle.it_docs.specs.declared.step.Step.{Step}
use Rattle.it_chain.specs.Contents.{Contents}
use Rattle.it_chain.specs.CountedBodies.{Setting}
use Rattle.it_rule_notes.specs.CountingFile.{FileCounts, IsLayoutBody}
use Rattle.it_rule_notes.specs.Payloads.{TellsPayloads}
use Rattle.it_rule_notes.specs.Sublayout.{TellsSublayout}
use Rattle.it_rule_notes.specs.declared.counting_file.CountingFile.{CountingFile}
use Rattle.it_rule_notes.specs.declared.payloads_note.PayloadsNote.{PayloadsNote}
use Rattle.it_rule_notes.specs.declared.sublayout_note.SublayoutNote.{SublayoutNote}

module _ (setting : Setting) (layout : Layout) (bundle : Contents) where
  -- one of the files that count for an id
  pub one_counts : (step : Step) (id told : List ℕ) (files : List CountingFile)
      (file : CountingFile) → told ≡ id → All (FileCounts setting layout bundle step id) files
      → Contains files file → FileCounts setting layout bundle step told file
  one_counts step id told files file same all among =
      subst (λ i. FileCounts setting layout bundle step i file) (sym same)
      (All-contains (FileCounts setting layout bundle step id) files file all among)

  pub payloads_told : (note : PayloadsNote) (step : Step) (id : List ℕ) (files : List CountingFile)
      (first second : CountingFile) → Contains layout.steps step → step.name ≡ note.step
      → note.id ≡ id → first.name ≡ note.first → second.name ≡ note.second
      → All (FileCounts setting layout bundle step id) files → Contains files first
      → Contains files second → first.payload ≢ second.payload
      → TellsPayloads setting layout bundle note
  payloads_told note step id files first second is_step step_is id_is first_is second_is all
      among also_among differ = record {
        step = step;
        first = first;
        second = second;
        is_step = is_step;
        step_is = step_is;
        first_is = first_is;
        second_is = second_is;
        first_counts = one_counts step id note.id files first id_is all among;
        second_counts = one_counts step id note.id files second id_is all also_among;
        differ = differ;
      }

  pub sublayout_told : (note : SublayoutNote) (step : Step) (id : List ℕ)
      (files : List CountingFile) (found : CountingFile) → Contains layout.steps step
      → step.name ≡ note.step → note.id ≡ id → found.name ≡ note.file
      → All (FileCounts setting layout bundle step id) files
      → Contains files found × IsLayoutBody found.payload → TellsSublayout setting layout bundle note
  sublayout_told note step id files found is_step step_is id_is file_is all among = record {
    step = step;
    found = found;
    is_step = is_step;
    step_is = step_is;
    file_is = file_is;
    counts = one_counts step id note.id files found id_is all among.0;
    is_layout = among.1;
  }
