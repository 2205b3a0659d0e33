-- What a function holds of the body of an envelope.
use Rattle.it_chain.specs.CountedBodies.{Body, of_link, of_layout}
use Rattle.it_chain.specs.declared.body.Body.{Body as Held}
use Rattle.it_chain.specs.declared.body.Body.TheVariants.{Link as held_link}
use Rattle.it_chain.specs.declared.body.Body.TheVariants.{Layout as held_layout}

-- the body that is held
abbrev pub as_body : Held → Body
as_body (held_link link) = of_link link
as_body (held_layout layout) = of_layout layout
