-- Windows of time in documents (Sigstore's `TimeRange`).
use Rattle.std.specs.Prelude.{codes}
use Rattle.serde_json.specs.Data.{Data}
use Rattle.it_base.specs.Document.{member_at}
use Rattle.it_base.specs.Parts.{IsPart}
use Rattle.it_base.specs.Table.{Stands}
use Rattle.it_log.specs.declared.window.Window.{Window}
use Rattle.it_trust_root.specs.Time.{IsTime}

-- a window in a document; its start must be there (this profile's choice)
pub record IsWindow (d : Data) (window : Window) : Type 0 where
  pub start_is : IsPart IsTime (codes "start") d window.start
  pub end_is : Stands IsTime (member_at (codes "end") d) window.end
