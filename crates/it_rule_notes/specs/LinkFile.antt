-- Which files hold the links of key ids (in-toto 1.0 section 5.2, verifying the final product).
use Rattle.std.specs.Prelude.{◌≡◌}
use Rattle.it_docs.specs.Link.{LinkOf}
use Rattle.it_docs.specs.declared.layout.Layout.{Layout}
use Rattle.it_docs.specs.declared.step.Step.{Step}
use Rattle.it_chain.specs.Contents.{Contents}
use Rattle.it_chain.specs.CountedBodies.{Setting}
use Rattle.it_rule_notes.specs.CountingFile.{FileCounts}
use Rattle.it_rule_notes.specs.declared.counting_file.CountingFile.{CountingFile}
use Rattle.it_rule_notes.specs.declared.link_file.LinkFile.{LinkFile}

-- the file holds this link, which counts for the key id of the step
pub record HoldsLink (setting : Setting) (layout : Layout) (bundle : Contents) (step : Step)
    (file : LinkFile) : Type 0 where
  pub found : CountingFile
  pub counts : FileCounts setting layout bundle step file.id found
  pub name_is : found.name ≡ file.name
  pub is_link : LinkOf found.payload file.link
