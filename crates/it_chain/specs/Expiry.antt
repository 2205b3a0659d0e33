-- Whether a layout has expired (in-toto 1.0 section 4.3, `expires`; that it has not yet at that
-- very moment is this profile's choice).
use Rattle.std.specs.Prelude.{◌<ℤ◌}
use Rattle.it_docs.specs.declared.layout.Layout.{Layout}
use Rattle.it_chain.specs.CountedBodies.{Setting}

abbrev pub IsExpired : Setting → Layout → Type 0
IsExpired setting layout = layout.expires <ℤ setting.moment
