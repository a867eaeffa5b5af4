use Rattle.std.proofs.Common.{sym, ◌∙◌}
use Rattle.forms.specs.Modes.{as_mode}
use Rattle.bounds.specs.Laws.KeptAttributes.{loose-strict, past-bound}
use Rattle.bounds.proofs.kept_attributes.has_bound.Goals as goal

pub has_bare_bound-requires : goal.has_bare_bound-requires
has_bare_bound-requires c =
    record { permissive = c.requires; bare = λ h u e. absurd (loose-strict (as_mode c.args.mode) (sym c.is_loose.ensures ∙ c.if-is_loose.true) h) }

pub has_bare_bound-requires-2-clause-bare : goal.has_bare_bound-requires-2-clause-bare
has_bare_bound-requires-2-clause-bare c = λ h. c.past_sets.ensures.bare

pub returns : goal.returns
returns c = past-bound (as_mode c.args.mode) c.args.a c.args.b (sym c.is_loose.ensures ∙ c.if-is_loose.false) c.past_sets.ensures _ c.has_bare_bound-2.ensures
