-- What the entry that hands back a part says. Assumes nothing: these are definitions.
use Rattle.std.specs.Prelude.{ℕ, ◌+◌, List, true, false, ◌≡◌, Option as Maybe, Some, None}
use Rattle.std.proofs.Math.Option.{Option}
use Rattle.std.specs.Borrow.{Bor}
use Rattle.cedar.specs.Types.{maybe}
use Rattle.cedar.specs.Result.{Result, ok, err}
use Rattle.cedar.specs.Outcome.{Outcome, refused, said, nothing, measured, typed, attribute, named, bytes_of}
use Rattle.forms.specs.Parts.{part}
use Rattle.validator.specs.declared.own_attribute_type.OwnPart.{OwnPart}

-- Where the part stands, by what the call comes to and the place of the attribute's body: a refusal, none, or start, end and flag.
abbrev pub part_of : Outcome → Option (ℕ × ℕ) → Result (Maybe OwnPart)
part_of (refused n) place = err n
part_of (said b) place = ok None
part_of nothing place = ok None
part_of (measured n l) place = ok None
part_of (typed t) place = ok None
part_of (attribute q t) place = ok (maybe None (λ p. Some (record { start = p.0; end = p.1; required = q })) place)
part_of (named ns) place = ok None

-- Its start and end; for none or a refusal, the empty part before the form's first byte.
abbrev pub span_of : Result (Maybe OwnPart) → ℕ × ℕ
span_of (err n) = (0, 0)
span_of (ok None) = (0, 0)
span_of (ok (Some x)) = (x.start, x.end)

-- The byte beside the part: a refusal's number; 0 for none; the letters of a line, r (114) for required and o (111) for optional.
abbrev pub told_of : Outcome → ℕ
told_of (refused n) = n
told_of (said b) = 0
told_of nothing = 0
told_of (measured n l) = 0
told_of (typed t) = 0
told_of (attribute true t) = 114
told_of (attribute false t) = 111
told_of (named ns) = 0

-- The slice r is the part of the slice t from start to end: it points there, and these are its bytes.
pub record IsPart (span : ℕ × ℕ) (t r : Bor (List ℕ)) : Type 0 where
  pub block : r.ref_ptr.0 ≡ t.ref_ptr.0
  pub offset : r.ref_ptr.1 ≡ t.ref_ptr.1 + span.0
  pub bytes : r.now ≡ part span.0 span.1 t.now

-- What is handed back of t: the answer's bytes, none at all for none or a refusal, where they stand in t; the byte beside it says which.
pub record Handed (o : Outcome) (place : Option (ℕ × ℕ)) (t r : Bor (List ℕ)) (told : ℕ) : Type 0 where
  pub handed : r.now ≡ bytes_of o
  pub stands : IsPart (span_of (part_of o place)) t r
  pub which : told ≡ told_of o
