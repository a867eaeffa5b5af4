-- What is kept of a check. Assumes nothing: these are definitions.
use Rattle.std.specs.Prelude.{Option as Maybe, option_map}
use Rattle.schemas.specs.declared.offsets.Offsets.{Offsets}
use Rattle.schemas.specs.declared.sections.Sections.{Sections}

-- Where the bodies of each section start.
abbrev pub starts_of : Sections → Offsets
starts_of x = record { entities = x.entities.bodies; actions = x.actions.bodies; functions = x.functions.bodies }

-- The same of a check: none where it found no whole schema.
abbrev pub offsets_of : Maybe Sections → Maybe Offsets
offsets_of x = option_map starts_of x
